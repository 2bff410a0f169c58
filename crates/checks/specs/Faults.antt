-- The numbers of the refusals: 1 to 14 of a sheet ("Where a sheet is turned back"), 17 of a wide one (M-104), and those of the tools and of hosts.
use Rattle.std.specs.Prelude.{ℕ, List, ◌++◌, codes, decimal}
use Rattle.checks.specs.declared.fault.Fault.{Fault}
use Rattle.checks.specs.declared.fault.Refusal.{Refusal}
use Rattle.checks.specs.declared.fault.Fault.TheVariants.{DistancesShort, NotHead, SizeOutOfLimits, RoadBits, RoadPlaces, RoadOrder, RoadWeight, NotSample, SampleSpareBit, LineCount, LineFields, LineParameter, LineTooShort, NotEnd, OutputShort, BytesRefused, WideHead, TooManyPlaces, CorrectionFaulty, CorrectionsClash}

abbrev pub fault_number : Fault → ℕ
fault_number DistancesShort = 1
fault_number NotHead = 2
fault_number SizeOutOfLimits = 3
fault_number RoadBits = 4
fault_number RoadPlaces = 5
fault_number RoadOrder = 6
fault_number RoadWeight = 7
fault_number NotSample = 8
fault_number SampleSpareBit = 9
fault_number LineCount = 10
fault_number LineFields = 11
fault_number LineParameter = 12
fault_number LineTooShort = 13
fault_number NotEnd = 14
fault_number OutputShort = 15
fault_number BytesRefused = 16
fault_number WideHead = 17
fault_number TooManyPlaces = 18
fault_number CorrectionFaulty = 19
fault_number CorrectionsClash = 20

-- what a program prints of a refusal: its number, a space, and the index of the word
abbrev pub refusal_text : Refusal → List ℕ
refusal_text refusal = decimal (fault_number refusal.fault) ++ codes " " ++ decimal refusal.place
