-- What the two walks over the lines of a sheet have found so far.
use Rattle.std.specs.Prelude.{ℕ, ◌+◌, Bool, cond, List, [], ◌∷◌, is_some, Some, None, Ok, Err, Option, Result, slice_set}
use Rattle.std.specs.Option.{option_or}
use Rattle.scale.specs.Weave.{WeaveCost, woven}
use Rattle.repertoire.specs.declared.links.Link.{Link}
use Rattle.repertoire.specs.declared.refusals.Refusal.{Refusal}
use Rattle.repertoire.specs.declared.refusals.Refusal.TheVariants.{NotAFrame, UnknownFrame, FrameOutOfOrder, TooFewRows}
use Rattle.frames.specs.declared.entries.Entry.{Entry}
use Rattle.frames.specs.declared.entries.Entry.TheVariants as entry
use Rattle.frames.specs.declared.kinds.Kind.{Kind}
use Rattle.frames.specs.declared.kinds.Kind.TheVariants as kind
use Rattle.frames.specs.Frames.{is_frame, kind_of, read_line}
use Rattle.sheet.specs.declared.contents.Contents.{Contents}
use Rattle.sheet.specs.declared.faults.Fault.{Fault}
use Rattle.sheet.specs.declared.surveys.Survey.{Survey}
use Rattle.sheet.specs.Order.{may_end, comes, behind}
use Rattle.sheet.specs.Sheets.{no_header, rowless}

-- ---- the first walk: is all well?

-- n, where a test failed
abbrev pub noted : Bool → ℕ → Option ℕ
noted b n = cond b None (Some n)

abbrev pub one_link : Option Kind → ℕ
one_link None = 0
one_link (Some kind.Header) = 0
one_link (Some kind.Link) = 1
one_link (Some kind.Guide) = 0
one_link (Some kind.Limits) = 0
one_link (Some kind.End) = 0

abbrev pub one_guide : Option Kind → ℕ
one_guide None = 0
one_guide (Some kind.Header) = 0
one_guide (Some kind.Link) = 0
one_guide (Some kind.Guide) = 1
one_guide (Some kind.Limits) = 0
one_guide (Some kind.End) = 0

-- before the first line
abbrev pub begun : Survey
begun = record { line = 1; last = None; unknown = None; misplaced = None; links = 0; guides = 0 }

-- one frame more, of a kind that may be unknown
abbrev pub with : Survey → Option Kind → Survey
with v k = record {
  line = v.line + 1;
  last = behind v.last k;
  unknown = option_or v.unknown (noted (is_some k) v.line);
  misplaced = option_or v.misplaced (noted (comes v.last k) v.line);
  links = v.links + one_link k;
  guides = v.guides + one_guide k;
}

-- the lines that are left, up to one that is no frame
abbrev pub surveyed : Survey → List (List ℕ) → Result Survey Fault
surveyed v [] = Ok v
surveyed v (l ∷ ls) = cond (is_frame l) (surveyed (with v (kind_of l)) ls) (Err (record { refusal = NotAFrame; line = v.line }))

-- the fault that a check found, or else what the next finds
abbrev pub found : Option ℕ → Refusal → Option Fault → Option Fault
found None why other = other
found (Some n) why other = Some (record { refusal = why; line = n })

-- what is wrong with frames that are all surveyed, given so many rows
abbrev pub fault_of : ℕ → ℕ → Survey → Option Fault
fault_of link_rows guide_rows v =
    found v.unknown UnknownFrame
    (found (option_or v.misplaced (noted (may_end v.last) v.line)) FrameOutOfOrder
    (found (rowless link_rows guide_rows v.links v.guides) TooFewRows None))

-- refused by a fault, else r
abbrev pub unfaulted : {A : Type 0} → Option Fault → Result A Fault → Result A Fault
unfaulted None r = r
unfaulted (Some f) r = Err f

-- ---- the second walk: fill the rows

pub record Filling : Type 0 where
  pub contents : Contents
  pub links : List (Link WeaveCost)
  pub guides : List WeaveCost

abbrev pub filling : Contents → List (Link WeaveCost) → List WeaveCost → Filling
filling c links guides = record { contents = c; links = links; guides = guides }

abbrev pub empty : Contents
empty = record { header = no_header; limits = woven 0 0 0; links = 0; guides = 0 }

-- one entry more; an entry that has no row is not there
abbrev pub stored : Filling → Entry → Filling
stored f (entry.Header h) = record { contents = record { header = h; limits = f.contents.limits; links = f.contents.links; guides = f.contents.guides }; links = f.links; guides = f.guides }
stored f (entry.Link l) =
    record { contents = record { header = f.contents.header; limits = f.contents.limits; links = f.contents.links + 1; guides = f.contents.guides }; links = slice_set f.links f.contents.links l; guides = f.guides }
stored f (entry.Guide c) =
    record { contents = record { header = f.contents.header; limits = f.contents.limits; links = f.contents.links; guides = f.contents.guides + 1 }; links = f.links; guides = slice_set f.guides f.contents.guides c }
stored f (entry.Limits c) = record { contents = record { header = f.contents.header; limits = c; links = f.contents.links; guides = f.contents.guides }; links = f.links; guides = f.guides }
stored f entry.End = f

-- one line more
abbrev pub stored_read : Filling → Result Entry Refusal → Filling
stored_read f (Ok e) = stored f e
stored_read f (Err why) = f

-- the lines that are left
abbrev pub filled : Filling → List (List ℕ) → Filling
filled f [] = f
filled f (l ∷ ls) = filled (stored_read f (read_line l)) ls
