-- The reports that are left to a reader of a run under one rule.
-- Assumes nothing.
use Rattle.std.specs.Prelude.{◌≡◌, List, [], cond, length, Option, Some, None}
use Rattle.std.specs.Iterator.{YieldsFirst}
use Rattle.octets.specs.Size.{at_most_65535}
use Rattle.run_search.specs.declared.Report.{Report}
use Rattle.run_search.specs.Reports.{rest}
use Rattle.run_search.specs.Search.{end_of}
use Rattle.run_reader.specs.declared.reports.FrameReports.{FrameReports}

-- those from its place on, each acceptable frame behind the one before; of a run of more than 65,535 octets none
abbrev pub reports_left : FrameReports → List Report
reports_left r = cond (at_most_65535 (length r.run.now)) (rest r.rule r.run.now r.place) []

-- the reader behind a call of `next`: it goes on behind the report that the call gave, and is as it was where it gave none
abbrev pub reader_behind : FrameReports → Option Report → FrameReports
reader_behind before (Some r) = record before { place = end_of r }
reader_behind before None = before

-- a call of `next` gives the first of the reports that are left, and leaves the others, to that reader
abbrev pub GivesFirst : FrameReports → Option Report → FrameReports → Type 0
GivesFirst before answer behind = YieldsFirst reports_left before answer behind × (behind ≡ reader_behind before answer)
