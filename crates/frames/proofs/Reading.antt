-- What the parts of a line say of the whole line.
use Rattle.std.proofs.Common.{◌≡◌, ℕ, ◌+◌, ◌-◌, ◌*◌, ◌%◌, ◌≤◌, true, ◌&&◌, eqb, List, [], ◌∷◌, length, get_or, take, drop, Some, None, Option, Ok, ok_or, sym, ap, ◌∙◌, arith}
use Rattle.std.proofs.lemmas.List.{length-take-le, length-drop, get_or-take, drop-take, take-take}
use Rattle.repertoire.specs.declared.refusals.Refusal.TheVariants.{UnknownFrame}
use Rattle.std.proofs.lemmas.Bool.Decides.{nat_tests}
use Rattle.frames.specs.declared.kinds.Kind.{Kind}
use Rattle.frames.specs.Digits.{all_digits, digit_value, value}
use Rattle.frames.specs.declared.shapes.Frame.{Frame}
use Rattle.frames.specs.declared.shapes.Frame.TheVariants as frame
use Rattle.frames.specs.Frames.{is_frame, coded, body_length, long, kind_of, part, body_of, entry_at, frame_kind, Parted, Whole, said}

pub length_part : (i n : ℕ) (b : List ℕ) → i + n ≤ length b → length (part i n b) ≡ n
length_part i n b h = length-take-le n (drop i b) (omega (arith, length-drop i b))

-- the first byte of a line
pub value_two : (l : List ℕ) → 2 ≤ length l → value (take 2 l) ≡ digit_value (get_or l 0 0) * 16 + digit_value (get_or l 1 0)
value_two [] h = absurd (omega arith)
value_two (a ∷ []) h = absurd (omega arith)
value_two (a ∷ (b ∷ l)) h = two (digit_value a) (digit_value b) where
  two : (x y : ℕ) → (0 * 16 + x) * 16 + y ≡ x * 16 + y
  two x y = omega arith

-- what was there, if that is no refusal
pub some_from_ok : {T : Type 0} (o : Option T) (x : T) → ok_or o UnknownFrame ≡ Ok x → o ≡ Some x
some_from_ok (Some y) x h = grind arith
some_from_ok None x h = grind arith

-- A line of at least three bytes, whose digits are all bytes but the last.
module _ (l : List ℕ) (enough : 3 ≤ length l) where
  digits_length : length (take (length l - 1) l) ≡ length l - 1
  digits_length = length-take-le (length l - 1) l (omega arith)

  pub body-drop : drop 2 (take (length l - 1) l) ≡ body_of l
  body-drop = let m : length l - 1 ≡ 2 + (length l - 3) = omega arith in ap (λ k. drop 2 (take k l)) m ∙ drop-take 2 (length l - 3) l

  pub body_is : take (length (take (length l - 1) l) - 2) (drop 2 (take (length l - 1) l)) ≡ body_of l
  body_is =
      let n : length (take (length l - 1) l) - 2 ≡ length l - 3 = omega (arith, digits_length) in
      ap (λ k. take k (drop 2 (take (length l - 1) l))) n ∙ ap (take (length l - 3)) body-drop ∙ take-take (length l - 3) (length l - 3) (drop 2 l) (omega arith)

  pub length_body : length (body_of l) ≡ length l - 3
  length_body = length_part 2 (length l - 3) l (omega arith)

  pub framed : (eqb (length (take (length l - 1) l) % 2) 0 && all_digits (take (length l - 1) l)) ≡ true → get_or l (length l - 1) 0 ≡ 10 → is_frame l ≡ true
  framed paired feed = grind (arith, nat_tests, digits_length)

  -- the kind that the two leading digits name
  named : (h w : ℕ) {k : Kind} → h ≡ digit_value (get_or (take (length l - 1) l) 0 0) → w ≡ digit_value (get_or (take (length l - 1) l) 1 0) → coded (h * 16 + w) ≡ Some k → coded (value (take 2 l)) ≡ Some k
  named h w high low e =
      let a : h ≡ digit_value (get_or l 0 0) = high ∙ ap digit_value (get_or-take (length l - 1) l 0 0 (omega arith)) in
      let b : w ≡ digit_value (get_or l 1 0) = low ∙ ap digit_value (get_or-take (length l - 1) l 1 0 (omega arith)) in
      let byte : h * 16 + w ≡ value (take 2 l) = ap (λ x. x * 16 + w) a ∙ ap (λ y. digit_value (get_or l 0 0) * 16 + y) b ∙ sym (value_two l (omega arith)) in
      ap coded (sym byte) ∙ e

  pub kind_known : (k : Kind) → coded (value (take 2 l)) ≡ Some k → length l - 3 ≡ body_length k → kind_of l ≡ Some k
  kind_known k e h = grind (arith, nat_tests)

  -- paired digits and a line feed are a frame, of the kind that its first byte names if its length is right
  pub opened : (h w : ℕ) (k : Kind)
      → h ≡ digit_value (get_or (take (length l - 1) l) 0 0) → w ≡ digit_value (get_or (take (length l - 1) l) 1 0) → Ok k ≡ ok_or (coded (h * 16 + w)) UnknownFrame
      → true ≡ (eqb (length (take (length l - 1) l) % 2) 0 && all_digits (take (length l - 1) l)) → get_or l (length l - 1) 0 ≡ 10
      → (is_frame l ≡ true) × (kind_of l ≡ long (3 + length (take (length (take (length l - 1) l) - 2) (drop 2 (take (length l - 1) l)))) (Some k))
  opened h w k high low known paired feed =
      let name = named h w high low (some_from_ok _ k (sym known)) in
      let size : length l ≡ 3 + length (take (length (take (length l - 1) l) - 2) (drop 2 (take (length l - 1) l))) = omega (arith, ap length body_is, length_body) in
      (framed (sym paired) feed, ap (long (length l)) name ∙ ap (λ n. long n (Some k)) size)

-- ---- a known kind

pub long_known : (n : ℕ) (o : Option Kind) (k : Kind) → long n o ≡ Some k → (o ≡ Some k) × (n ≡ 3 + body_length k)
long_known n None k e = grind arith
long_known n (Some j) k e = grind (arith, nat_tests)

pub known_name : (l : List ℕ) (k : Kind) → kind_of l ≡ Some k → coded (value (take 2 l)) ≡ Some k
known_name l k e = (long_known (length l) (coded (value (take 2 l))) k e).0

pub known_length : (l : List ℕ) (k : Kind) → kind_of l ≡ Some k → length l ≡ 3 + body_length k
known_length l k e = (long_known (length l) (coded (value (take 2 l))) k e).1

pub length_known_body : (l : List ℕ) (k : Kind) → kind_of l ≡ Some k → length (body_of l) ≡ body_length k
length_known_body l k e = let n = known_length l k e in let m : 3 ≤ length l = omega arith in omega (arith, length_body l m)

-- ---- a frame and the digits behind its first byte

pub whole : (f : Frame) (b : List ℕ) (p : ℕ) → Parted b p f → length b ≡ body_length (frame_kind f) → Whole f
whole (frame.Header m s g p) b q h e = (rw h.0 (length_part 0 4 b (omega arith)), rw h.1 (length_part 4 4 b (omega arith)), rw h.2 (length_part 8 4 b (omega arith)))
whole (frame.Link m s g p) b q h e = (rw h.0 (length_part 0 4 b (omega arith)), rw h.1 (length_part 4 4 b (omega arith)), rw h.2 (length_part 8 20 b (omega arith)))
whole (frame.Guide c p) b q h e = grind arith
whole (frame.Limits c p) b q h e = grind arith
whole (frame.End p) b q h e = tt

pub said_is : (f : Frame) (b : List ℕ) (p : ℕ) → Parted b p f → said f ≡ entry_at (frame_kind f) b
said_is f b q h = grind arith
