-- What one line of a sheet says, and how it is written.
use Rattle.std.specs.Prelude.{◌≡◌, ℕ, ◌+◌, ◌-◌, ◌%◌, ◌^◌, ◌<◌, Bool, true, false, cond, ◌&&◌, List, [], ◌∷◌, ◌++◌, length, take, drop, Some, None, Ok, Err, Option, Result, ◌==◌, nat_le, slice_index}
use Rattle.std.specs.Option.{option_map, ok_or}
use Rattle.scale.specs.Weave.{WeaveCost, woven}
use Rattle.repertoire.specs.declared.refusals.Refusal.{Refusal}
use Rattle.repertoire.specs.declared.refusals.Refusal.TheVariants.{WrongMotifCount, UnknownEnd, TooManyLinks, UnknownMotif, WrongGuideCount, GuideOverstates, TooManyScales, WrongTableLength, RouteTooLong, NotAFrame, UnknownFrame, FrameOutOfOrder, TooFewRows, BufferTooShort, AnotherRepertoire, AnotherTable, TooFewPlaces, NotSettled}
use Rattle.frames.specs.declared.kinds.Kind.{Kind}
use Rattle.frames.specs.declared.kinds.Kind.TheVariants as kind
use Rattle.frames.specs.declared.shapes.Frame.{Frame}
use Rattle.frames.specs.declared.shapes.Frame.TheVariants as frame
use Rattle.frames.specs.declared.entries.Entry.{Entry}
use Rattle.frames.specs.declared.entries.Entry.TheVariants as entry
use Rattle.frames.specs.Digits.{all_digits, value, digits}

-- a frame: an even number of digits, at least two, then a line feed
abbrev pub is_frame : List ℕ → Bool
is_frame l = nat_le 3 (length l) && (length l % 2 == 1 && (all_digits (take (length l - 1) l) && slice_index l (length l - 1) == 10))

-- n bytes of a line, from byte i on
abbrev pub part : ℕ → ℕ → List ℕ → List ℕ
part i n l = take n (drop i l)

-- ---- kinds

-- the first byte of a frame
abbrev pub code : Kind → ℕ
code kind.Header = 1
code kind.Link = 2
code kind.Guide = 3
code kind.Limits = 4
code kind.End = 5

-- the kind of which n is the first byte
abbrev pub coded : ℕ → Option Kind
coded n = cond (n == 1) (Some kind.Header) (cond (n == 2) (Some kind.Link) (cond (n == 3) (Some kind.Guide) (cond (n == 4) (Some kind.Limits) (cond (n == 5) (Some kind.End) None))))

-- how many digits stand between the first byte and the line feed
abbrev pub body_length : Kind → ℕ
body_length kind.Header = 12
body_length kind.Link = 28
body_length kind.Guide = 20
body_length kind.Limits = 20
body_length kind.End = 0

-- k, if a line of n bytes has the length of that kind
abbrev pub long : ℕ → Option Kind → Option Kind
long n None = None
long n (Some k) = cond (n == 3 + body_length k) (Some k) None

-- the kind of a frame, if it is known and the length is right
abbrev pub kind_of : List ℕ → Option Kind
kind_of l = long (length l) (coded (value (take 2 l)))

-- ---- what a frame says

-- the digits of a line between its first byte and its line feed
abbrev pub body_of : List ℕ → List ℕ
body_of l = part 2 (length l - 3) l

-- a cost: float 4 digits, yarns 8, picks 8
abbrev pub cost_of : List ℕ → WeaveCost
cost_of b = woven (value (part 0 4 b)) (value (part 4 8 b)) (value (part 12 8 b))

-- a frame of a kind as an entry, from the digits behind its first byte
abbrev pub entry_at : Kind → List ℕ → Entry
entry_at kind.Header b = entry.Header (record { motifs = value (part 0 4 b); start = value (part 4 4 b); goal = value (part 8 4 b) })
entry_at kind.Link b = entry.Link (record { from = value (part 0 4 b); to = value (part 4 4 b); cost = cost_of (part 8 20 b) })
entry_at kind.Guide b = entry.Guide (cost_of b)
entry_at kind.Limits b = entry.Limits (cost_of b)
entry_at kind.End b = entry.End

-- what a frame says, if its kind is known and its length is right
abbrev pub entry_of : List ℕ → Option Entry
entry_of l = option_map (λ k. entry_at k (body_of l)) (kind_of l)

-- what reading a line answers
abbrev pub read_line : List ℕ → Result Entry Refusal
read_line l = cond (is_frame l) (ok_or (entry_of l) UnknownFrame) (Err NotAFrame)

-- ---- how an entry is written

abbrev pub cost_digits : WeaveCost → List ℕ
cost_digits c = digits 4 c.first.value ++ (digits 8 c.second.first.bits ++ digits 8 c.second.second.value)

abbrev pub entry_kind : Entry → Kind
entry_kind (entry.Header h) = kind.Header
entry_kind (entry.Link l) = kind.Link
entry_kind (entry.Guide c) = kind.Guide
entry_kind (entry.Limits c) = kind.Limits
entry_kind entry.End = kind.End

abbrev pub body : Entry → List ℕ
body (entry.Header h) = digits 4 h.motifs ++ (digits 4 h.start ++ digits 4 h.goal)
body (entry.Link l) = digits 4 l.from ++ (digits 4 l.to ++ cost_digits l.cost)
body (entry.Guide c) = cost_digits c
body (entry.Limits c) = cost_digits c
body entry.End = []

-- the line that says an entry
unfoldable pub line_of : Entry → List ℕ
line_of e = digits 2 (code (entry_kind e)) ++ (body e ++ (10 ∷ []))

-- the numbers of an entry fit their digits, as all numbers of the program do
abbrev pub CostFits : WeaveCost → Type 0
CostFits c = (c.first.value < 2 ^ 16) × (c.second.first.bits < 2 ^ 32) × (c.second.second.value < 2 ^ 32)

abbrev pub EntryFits : Entry → Type 0
EntryFits (entry.Header h) = (h.motifs < 2 ^ 16) × (h.start < 2 ^ 16) × (h.goal < 2 ^ 16)
EntryFits (entry.Link l) = (l.from < 2 ^ 16) × (l.to < 2 ^ 16) × CostFits l.cost
EntryFits (entry.Guide c) = CostFits c
EntryFits (entry.Limits c) = CostFits c
EntryFits entry.End = Unit {0}

-- the line of an entry says that entry again
abbrev pub ReadsBack : Entry → Type 0
ReadsBack e = read_line (line_of e) ≡ Ok e

-- the buffer b with w written over it from place i on
abbrev pub over : List ℕ → ℕ → List ℕ → List ℕ
over b i w = take i b ++ (w ++ drop (i + length w) b)

-- ---- frames that borrow their digits

abbrev pub frame_kind : Frame → Kind
frame_kind (frame.Header motifs start goal line) = kind.Header
frame_kind (frame.Link from to cost line) = kind.Link
frame_kind (frame.Guide cost line) = kind.Guide
frame_kind (frame.Limits cost line) = kind.Limits
frame_kind (frame.End line) = kind.End

-- the place of its line in the sheet
abbrev pub frame_line : Frame → ℕ
frame_line (frame.Header motifs start goal line) = line
frame_line (frame.Link from to cost line) = line
frame_line (frame.Guide cost line) = line
frame_line (frame.Limits cost line) = line
frame_line (frame.End line) = line

-- the parts of a frame are those of the body b, and its place is p
abbrev pub Parted : List ℕ → ℕ → Frame → Type 0
Parted b p (frame.Header motifs start goal line) = (motifs.now ≡ part 0 4 b) × (start.now ≡ part 4 4 b) × (goal.now ≡ part 8 4 b) × (line ≡ p)
Parted b p (frame.Link from to cost line) = (from.now ≡ part 0 4 b) × (to.now ≡ part 4 4 b) × (cost.now ≡ part 8 20 b) × (line ≡ p)
Parted b p (frame.Guide cost line) = (cost.now ≡ b) × (line ≡ p)
Parted b p (frame.Limits cost line) = (cost.now ≡ b) × (line ≡ p)
Parted b p (frame.End line) = line ≡ p

-- the parts have the lengths of their numbers
abbrev pub Whole : Frame → Type 0
Whole (frame.Header motifs start goal line) = (length motifs.now ≡ 4) × (length start.now ≡ 4) × (length goal.now ≡ 4)
Whole (frame.Link from to cost line) = (length from.now ≡ 4) × (length to.now ≡ 4) × (length cost.now ≡ 20)
Whole (frame.Guide cost line) = length cost.now ≡ 20
Whole (frame.Limits cost line) = length cost.now ≡ 20
Whole (frame.End line) = Unit {0}

-- what the digits of a frame say
abbrev pub said : Frame → Entry
said (frame.Header motifs start goal line) = entry.Header (record { motifs = value motifs.now; start = value start.now; goal = value goal.now })
said (frame.Link from to cost line) = entry.Link (record { from = value from.now; to = value to.now; cost = cost_of cost.now })
said (frame.Guide cost line) = entry.Guide (cost_of cost.now)
said (frame.Limits cost line) = entry.Limits (cost_of cost.now)
said (frame.End line) = entry.End

-- the line l as a frame at the place p, or why it is none
abbrev pub Parses : List ℕ → ℕ → Result Frame Refusal → Type 0
Parses l p (Ok f) = (is_frame l ≡ true) × (kind_of l ≡ Some (frame_kind f)) × Parted (body_of l) p f
Parses l p (Err NotAFrame) = is_frame l ≡ false
Parses l p (Err UnknownFrame) = (is_frame l ≡ true) × (kind_of l ≡ None)
Parses l p (Err FrameOutOfOrder) = ⊥
Parses l p (Err TooFewRows) = ⊥
Parses l p (Err BufferTooShort) = ⊥
Parses l p (Err WrongMotifCount) = ⊥
Parses l p (Err UnknownEnd) = ⊥
Parses l p (Err TooManyLinks) = ⊥
Parses l p (Err UnknownMotif) = ⊥
Parses l p (Err WrongGuideCount) = ⊥
Parses l p (Err GuideOverstates) = ⊥
Parses l p (Err TooManyScales) = ⊥
Parses l p (Err WrongTableLength) = ⊥
Parses l p (Err RouteTooLong) = ⊥
Parses l p (Err AnotherRepertoire) = ⊥
Parses l p (Err AnotherTable) = ⊥
Parses l p (Err TooFewPlaces) = ⊥
Parses l p (Err NotSettled) = ⊥
