pub mod KindNumbers
pub mod KindOctet
pub mod Read
pub mod Same
pub mod Behind
pub mod Ends
pub mod Torn
