-- What a sheet says, and how it is written.
use Rattle.std.specs.Prelude.{◌≡◌, ℕ, ◌+◌, ◌≤◌, cond, List, [], ◌∷◌, ◌++◌, map, length, drop, is_some, Some, None, Ok, Err, Option, Result, nat_le, nat_lt}
use Rattle.std.specs.List.{flat_map}
use Rattle.std.specs.Option.{option_to_list}
use Rattle.scale.specs.Weave.{WeaveCost, woven}
use Rattle.repertoire.specs.declared.headers.Header.{Header}
use Rattle.repertoire.specs.declared.links.Link.{Link}
use Rattle.repertoire.specs.declared.refusals.Refusal.{Refusal}
use Rattle.repertoire.specs.declared.refusals.Refusal.TheVariants.{NotAFrame, UnknownFrame, FrameOutOfOrder, TooFewRows, BufferTooShort}
use Rattle.repertoire.specs.declared.repertoires.Repertoire.{Repertoire}
use Rattle.frames.specs.declared.entries.Entry.{Entry}
use Rattle.frames.specs.declared.entries.Entry.TheVariants as entry
use Rattle.frames.specs.Frames.{is_frame, kind_of, entry_of, line_of}
use Rattle.frames.specs.Lines.{lines}
use Rattle.sheet.specs.declared.contents.Contents.{Contents}
use Rattle.sheet.specs.declared.faults.Fault.{Fault}
use Rattle.sheet.specs.Order.{first_not, misplaced}

-- the records of a sheet
pub record Sheet : Type 0 where
  pub header : Header
  pub links : List (Link WeaveCost)
  pub guides : List WeaveCost
  pub limits : WeaveCost

-- xs at the front of what was there, which stays behind them
abbrev pub onto : {A : Type 0} → List A → List A → List A
onto xs ys = xs ++ drop (length xs) ys

-- ---- writing

-- its entries in their order
abbrev pub entries_of : Sheet → List Entry
entries_of s = entry.Header s.header ∷ (map entry.Link s.links ++ (map entry.Guide s.guides ++ (entry.Limits s.limits ∷ (entry.End ∷ []))))

-- a line for each entry
abbrev pub text_of : List Entry → List ℕ
text_of es = flat_map line_of es

-- the bytes of a sheet
abbrev pub written : Sheet → List ℕ
written s = text_of (entries_of s)

-- a lent repertoire and limits as a sheet
abbrev pub records : Repertoire WeaveCost → WeaveCost → Sheet
records lent limits = record { header = lent.header; links = lent.links.now; guides = lent.guides.now; limits = limits }

-- ---- reading

-- what the lines of known frames say
abbrev pub entries_in : List (List ℕ) → List Entry
entries_in ls = flat_map (λ l. option_to_list (entry_of l)) ls

abbrev pub links_in : List Entry → List (Link WeaveCost)
links_in [] = []
links_in (entry.Header h ∷ es) = links_in es
links_in (entry.Link l ∷ es) = l ∷ links_in es
links_in (entry.Guide c ∷ es) = links_in es
links_in (entry.Limits c ∷ es) = links_in es
links_in (entry.End ∷ es) = links_in es

abbrev pub guides_in : List Entry → List WeaveCost
guides_in [] = []
guides_in (entry.Header h ∷ es) = guides_in es
guides_in (entry.Link l ∷ es) = guides_in es
guides_in (entry.Guide c ∷ es) = c ∷ guides_in es
guides_in (entry.Limits c ∷ es) = guides_in es
guides_in (entry.End ∷ es) = guides_in es

-- the last header, or h where there is none
abbrev pub header_in : Header → List Entry → Header
header_in h [] = h
header_in h (entry.Header x ∷ es) = header_in x es
header_in h (entry.Link l ∷ es) = header_in h es
header_in h (entry.Guide c ∷ es) = header_in h es
header_in h (entry.Limits c ∷ es) = header_in h es
header_in h (entry.End ∷ es) = header_in h es

-- the last limits, or m where there are none
abbrev pub limits_in : WeaveCost → List Entry → WeaveCost
limits_in m [] = m
limits_in m (entry.Header h ∷ es) = limits_in m es
limits_in m (entry.Link l ∷ es) = limits_in m es
limits_in m (entry.Guide c ∷ es) = limits_in m es
limits_in m (entry.Limits c ∷ es) = limits_in c es
limits_in m (entry.End ∷ es) = limits_in m es

abbrev pub no_header : Header
no_header = record { motifs = 0; start = 0; goal = 0 }

abbrev pub gathered : List Entry → Sheet
gathered es = record { header = header_in no_header es; links = links_in es; guides = guides_in es; limits = limits_in (woven 0 0 0) es }

-- the number of the first line that finds no row: line 1 is the header, then come the links, then the guides
abbrev pub rowless : ℕ → ℕ → ℕ → ℕ → Option ℕ
rowless link_rows guide_rows links guides = cond (nat_lt link_rows links) (Some (link_rows + 2)) (cond (nat_lt guide_rows guides) (Some (links + guide_rows + 2)) None)

-- refused where a check finds a line
abbrev pub unless : {A : Type 0} → Option ℕ → Refusal → Result A Fault → Result A Fault
unless None why r = r
unless (Some n) why r = Err (record { refusal = why; line = n })

-- what a sheet says: the checks in their order, and the first that fails is answered
abbrev pub decoded : ℕ → ℕ → List ℕ → Result Sheet Fault
decoded link_rows guide_rows s =
    unless (first_not 1 is_frame (lines s)) NotAFrame
    (unless (first_not 1 (λ l. is_some (kind_of l)) (lines s)) UnknownFrame
    (unless (misplaced 1 None (lines s)) FrameOutOfOrder
    (unless (rowless link_rows guide_rows (length (links_in (entries_in (lines s)))) (length (guides_in (entries_in (lines s))))) TooFewRows (Ok (gathered (entries_in (lines s)))))))

-- the same, read into these rows
abbrev pub decoded_into : List (Link WeaveCost) → List WeaveCost → List ℕ → Result Sheet Fault
decoded_into links guides s = decoded (length links) (length guides) s

-- what writing a sheet into a buffer answers, and what the buffer holds then
abbrev pub length_in : Sheet → List ℕ → Result ℕ Refusal
length_in s buffer = cond (nat_le (length (written s)) (length buffer)) (Ok (length (written s))) (Err BufferTooShort)

abbrev pub written_into : Sheet → List ℕ → List ℕ
written_into s buffer = cond (nat_le (length (written s)) (length buffer)) (onto (written s) buffer) buffer

-- what is written of a sheet reads back as that sheet, into any rows that suffice
abbrev pub RoundTrips : Sheet → Type 0
RoundTrips s = (link_rows guide_rows : ℕ) → length s.links ≤ link_rows → length s.guides ≤ guide_rows → decoded link_rows guide_rows (written s) ≡ Ok s

-- ---- rows

abbrev pub contents_of : Sheet → Contents
contents_of s = record { header = s.header; limits = s.limits; links = length s.links; guides = length s.guides }

-- what reading answers, and what the rows hold then
abbrev pub answered : Result Sheet Fault → Result Contents Fault
answered (Ok s) = Ok (contents_of s)
answered (Err f) = Err f

abbrev pub links_after : Result Sheet Fault → List (Link WeaveCost) → List (Link WeaveCost)
links_after (Ok s) rows = onto s.links rows
links_after (Err f) rows = rows

abbrev pub guides_after : Result Sheet Fault → List WeaveCost → List WeaveCost
guides_after (Ok s) rows = onto s.guides rows
guides_after (Err f) rows = rows
