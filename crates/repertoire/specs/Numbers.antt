-- The numbers of the refusals.
use Rattle.std.specs.Prelude.{ℕ}
use Rattle.repertoire.specs.declared.refusals.Refusal.{Refusal}
use Rattle.repertoire.specs.declared.refusals.Refusal.TheVariants.{WrongMotifCount, UnknownEnd, TooManyLinks, UnknownMotif, WrongGuideCount, GuideOverstates, TooManyScales, WrongTableLength, RouteTooLong, NotAFrame, UnknownFrame, FrameOutOfOrder, TooFewRows, BufferTooShort, AnotherRepertoire, AnotherTable, TooFewPlaces, NotSettled}

-- the number under which a refusal is listed
abbrev pub refusal_number : Refusal → ℕ
refusal_number WrongMotifCount = 1
refusal_number UnknownEnd = 2
refusal_number TooManyLinks = 3
refusal_number UnknownMotif = 4
refusal_number WrongGuideCount = 5
refusal_number GuideOverstates = 6
refusal_number TooManyScales = 7
refusal_number WrongTableLength = 8
refusal_number RouteTooLong = 9
refusal_number NotAFrame = 10
refusal_number UnknownFrame = 11
refusal_number FrameOutOfOrder = 12
refusal_number TooFewRows = 13
refusal_number BufferTooShort = 14
refusal_number AnotherRepertoire = 21
refusal_number AnotherTable = 22
refusal_number TooFewPlaces = 23
refusal_number NotSettled = 24
