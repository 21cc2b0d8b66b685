-- What the office is told of a sheet.
use Rattle.std.specs.Prelude.{ℕ, Bool, cond, not, ◌&&◌, List, length, Ok, Err, count_by, Result, ◌==◌, nat_lt}
use Rattle.scale.specs.Weave.{WeaveCost}
use Rattle.repertoire.specs.declared.headers.Header.{Header}
use Rattle.repertoire.specs.declared.links.Link.{Link}
use Rattle.repertoire.specs.Links.{leaves, reaches}
use Rattle.sheet.specs.declared.faults.Fault.{Fault}
use Rattle.sheet.specs.Sheets.{Sheet, contents_of, decoded_into, links_after, guides_after}
use Rattle.account.specs.declared.reports.Account.{Account}
use Rattle.account.specs.declared.reports.Rejection.{Rejection}
use Rattle.account.specs.declared.reports.Rejection.TheVariants.{Faulty, TooLong}

-- what a sheet holds, and how many of its links leave the start and reach the goal
abbrev pub accounted : Sheet → Account
accounted s = record { contents = contents_of s; leaving = count_by (leaves s.header.start) s.links; reaching = count_by (reaches s.header.goal) s.links }

-- there is no such link, and one is needed, since start and goal differ
abbrev pub lacking : ℕ → Header → Bool
lacking count h = count == 0 && not (h.start == h.goal)

abbrev pub told : Result Sheet Fault → Result Account Rejection
told (Ok s) = Ok (accounted s)
told (Err f) = Err (Faulty f)

-- a sheet of more than 65,536 bytes is not looked at
abbrev pub unless_long : {A : Type 0} → List ℕ → A → A → A
unless_long s a b = cond (nat_lt 65536 (length s)) a b

-- the report on a sheet, and what the rows hold then
abbrev pub reported : List (Link WeaveCost) → List WeaveCost → List ℕ → Result Account Rejection
reported links guides s = unless_long s (Err TooLong) (told (decoded_into links guides s))

abbrev pub links_told : List (Link WeaveCost) → List WeaveCost → List ℕ → List (Link WeaveCost)
links_told links guides s = unless_long s links (links_after (decoded_into links guides s) links)

abbrev pub guides_told : List (Link WeaveCost) → List WeaveCost → List ℕ → List WeaveCost
guides_told links guides s = unless_long s guides (guides_after (decoded_into links guides s) guides)
