-- Writing over a buffer.
use Rattle.std.proofs.Common.{◌≡◌, ℕ, zero, suc, ◌+◌, ◌/◌, ◌%◌, ◌≤◌, List, ◌++◌, length, take, drop, sym, refl, ap, ◌∙◌, arith}
use Rattle.std.proofs.lemmas.List.{append_assoc, length-append, length-take-le, length_push, take_at, drop_at, drop-drop}
use Rattle.frames.specs.Digits.{digit_of, digits}
use Rattle.scale.specs.Weave.{WeaveCost}
use Rattle.frames.specs.declared.entries.Entry.{Entry}
use Rattle.frames.specs.declared.entries.Entry.TheVariants as entry
use Rattle.frames.specs.Frames.{body_length, entry_kind, cost_digits, body, line_of, over}

pub length_digits : (w n : ℕ) → length (digits w n) ≡ w
unfolding digits
length_digits zero n = refl
length_digits (suc w) n = length_push (digits w (n / 16)) (digit_of (n % 16)) ∙ omega (arith, length_digits w (n / 16))

-- ---- over

-- one text behind another
pub over-over : (b v w : List ℕ) (i n : ℕ) → length v ≡ n → i + n ≤ length b → over (over b i v) (i + n) w ≡ over b i (v ++ w)
over-over b v w i n e h =
    let front : length (take i b ++ v) ≡ i + n = omega (arith, length-append (take i b) v, length-take-le i b (omega arith)) in
    let whole : over b i v ≡ (take i b ++ v) ++ drop (i + n) b = ap (λ k. take i b ++ (v ++ drop (i + k) b)) e ∙ sym (append_assoc (take i b) v (drop (i + n) b)) in
    let before : take (i + n) (over b i v) ≡ take i b ++ v = ap (take (i + n)) whole ∙ take_at (take i b ++ v) (drop (i + n) b) (i + n) front in
    let behind : drop (i + n) (over b i v) ≡ drop (i + n) b = ap (drop (i + n)) whole ∙ drop_at (take i b ++ v) (drop (i + n) b) (i + n) front in
    let rest : drop (i + n + length w) (over b i v) ≡ drop (i + n + length w) b = sym (drop-drop (length w) (i + n) (over b i v)) ∙ ap (drop (length w)) behind ∙ drop-drop (length w) (i + n) b in
    let end : i + n + length w ≡ i + length (v ++ w) = omega (arith, length-append v w) in
    ap (λ x. x ++ (w ++ drop (i + n + length w) (over b i v))) before ∙ ap (λ x. (take i b ++ v) ++ (w ++ x)) rest
    ∙ append_assoc (take i b) v (w ++ drop (i + n + length w) b) ∙ ap (λ x. take i b ++ x) (sym (append_assoc v w (drop (i + n + length w) b)))
    ∙ ap (λ k. take i b ++ ((v ++ w) ++ drop k b)) end

-- ---- lengths

pub length-cost_digits : (c : WeaveCost) → length (cost_digits c) ≡ 20
length-cost_digits c = grind (arith, length-append, length_digits)

pub length_body : (e : Entry) → length (body e) ≡ body_length (entry_kind e)
length_body (entry.Header h) = grind (arith, length-append, length_digits)
length_body (entry.Link l) = grind (arith, length-append, length_digits, length-cost_digits)
length_body (entry.Guide c) = length-cost_digits c
length_body (entry.Limits c) = length-cost_digits c
length_body entry.End = refl

pub length_line : (e : Entry) → length (line_of e) ≡ 3 + body_length (entry_kind e)
unfolding line_of
length_line e = grind (arith, length-append, length_digits, length_body)
