-- The refusals and the numbers of their questions.
-- Assumes nothing.
use Rattle.std.specs.Prelude.{ℕ, cond, List, [], ◌∷◌, eqb, Result, Ok, Err}
use Rattle.octets.specs.Question.{answered}
use Rattle.octets.specs.declared.refusal.Refusal.{Refusal}
use Rattle.octets.specs.declared.refusal.Refusal.TheVariants.{MstpTooShort, MstpPreamble, MstpFrameType, MstpHeaderCheck, MstpSize}
use Rattle.octets.specs.declared.refusal.Refusal.TheVariants.{MstpDataCheck, MstpDataTooLong, MstpOutputTooShort}
use Rattle.octets.specs.declared.refusal.Refusal.TheVariants.{BvlcTooShort, BvlcType, BvlcFunction, BvlcLength, BvlcNoNpdu, BvlcOutputTooShort}
use Rattle.octets.specs.declared.refusal.Refusal.TheVariants.{EthernetTooShort, EthernetType, EthernetLlc, EthernetTooLong, EthernetOutputTooShort}
use Rattle.octets.specs.declared.refusal.Refusal.TheVariants.{TooManyOctets, ListTooShort, PlaceBeyondEnd}
use Rattle.octets.specs.declared.refusal.Refusal.TheVariants.{TrailerTorn, RecordKind, RecordSize, RecordTorn, BufferTooShort, EndBeyondLog}
use Rattle.octets.specs.declared.refusal.Refusal.TheVariants.{LengthField, LengthBeyondEnd}

-- the number of each
abbrev pub refusal_number : Refusal → ℕ
refusal_number MstpTooShort = 1
refusal_number MstpPreamble = 2
refusal_number MstpFrameType = 3
refusal_number MstpHeaderCheck = 4
refusal_number MstpSize = 5
refusal_number MstpDataCheck = 6
refusal_number MstpDataTooLong = 7
refusal_number MstpOutputTooShort = 8
refusal_number BvlcTooShort = 11
refusal_number BvlcType = 12
refusal_number BvlcFunction = 13
refusal_number BvlcLength = 14
refusal_number BvlcNoNpdu = 15
refusal_number BvlcOutputTooShort = 16
refusal_number EthernetTooShort = 21
refusal_number EthernetType = 22
refusal_number EthernetLlc = 23
refusal_number EthernetTooLong = 24
refusal_number EthernetOutputTooShort = 25
refusal_number TooManyOctets = 31
refusal_number ListTooShort = 32
refusal_number PlaceBeyondEnd = 33
refusal_number TrailerTorn = 41
refusal_number RecordKind = 42
refusal_number RecordSize = 43
refusal_number RecordTorn = 44
refusal_number BufferTooShort = 46
refusal_number EndBeyondLog = 47
refusal_number LengthField = 61
refusal_number LengthBeyondEnd = 62

-- the refusals in the order of their numbers
abbrev pub refusals : List Refusal
refusals =
    MstpTooShort
    ∷ MstpPreamble
    ∷ MstpFrameType
    ∷ MstpHeaderCheck
    ∷ MstpSize
    ∷ MstpDataCheck
    ∷ MstpDataTooLong
    ∷ MstpOutputTooShort
    ∷ BvlcTooShort
    ∷ BvlcType
    ∷ BvlcFunction
    ∷ BvlcLength
    ∷ BvlcNoNpdu
    ∷ BvlcOutputTooShort
    ∷ EthernetTooShort
    ∷ EthernetType
    ∷ EthernetLlc
    ∷ EthernetTooLong
    ∷ EthernetOutputTooShort
    ∷ TooManyOctets
    ∷ ListTooShort
    ∷ PlaceBeyondEnd
    ∷ TrailerTorn
    ∷ RecordKind
    ∷ RecordSize
    ∷ RecordTorn
    ∷ BufferTooShort
    ∷ EndBeyondLog
    ∷ LengthField
    ∷ LengthBeyondEnd
    ∷ []

-- the first of some refusals that has a number; the last where none has
abbrev pub numbered : ℕ → Refusal → List Refusal → Refusal
numbered n last [] = last
numbered n last (r ∷ others) = cond (eqb (refusal_number r) n) r (numbered n last others)

-- the refusal of a question's number
abbrev pub refusal_of : ℕ → Refusal
refusal_of n = numbered n LengthBeyondEnd refusals

-- a refusal by the question with a number
abbrev pub refused : {A : Type 0} → ℕ → Result A Refusal
refused n = Err (refusal_of n)

-- what a call answers: its value where no question failed (0), else the refusal of the question with the number
abbrev pub result_of : {A : Type 0} → ℕ → A → Result A Refusal
result_of q value = answered refused q (Ok value)
