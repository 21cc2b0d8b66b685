-- A line that was written reads back, and a line that was read is written again.
use Rattle.std.proofs.Common.{◌≡◌, ℕ, ◌+◌, ◌-◌, ◌%◌, ◌^◌, ◌<◌, ◌≤◌, Bool, true, false, cond, List, [], ◌∷◌, ◌++◌, length, get_or, take, drop, Some, None, Ok, Err, Option, sym, refl, ap, ◌∙◌, arith}
use Rattle.std.proofs.lemmas.List.{append_assoc, length-take-le, length-drop, take_at, drop-drop, take-append-drop, take_all, drop_more, take-take, nil_from_length}
use Rattle.std.proofs.lemmas.Bool.{cond-true}
use Rattle.std.proofs.lemmas.Bool.Decides.{nat_tests}
use Rattle.std.proofs.lemmas.Grind.{common_steps}
use Rattle.std.proofs.lemmas.List.Folds.{list_all-append}
use Rattle.std.specs.Option.{option_map, ok_or}
use Rattle.scale.specs.Weave.{WeaveCost}
use Rattle.repertoire.specs.declared.refusals.Refusal.TheVariants.{NotAFrame, UnknownFrame}
use Rattle.frames.specs.declared.kinds.Kind.{Kind}
use Rattle.frames.specs.declared.kinds.Kind.TheVariants as kind
use Rattle.frames.specs.declared.entries.Entry.{Entry}
use Rattle.frames.specs.declared.entries.Entry.TheVariants as entry
use Rattle.frames.specs.Digits.{all_digits, value, digits}
use Rattle.frames.specs.Frames.{is_frame, part, code, coded, body_length, kind_of, body_of, cost_of, entry_at, entry_of, read_line, cost_digits, entry_kind, body, line_of, CostFits, EntryFits, ReadsBack}
use Rattle.frames.specs.Lines.{lines}
use Rattle.frames.proofs.Cuts.{lines_text}
use Rattle.frames.proofs.Numerals.{all_digits-append, all_digits-take, all_digits-drop, all_digits-digits, value-digits, digits_value}
use Rattle.frames.proofs.Reading.{body-drop, length_part, kind_known, some_from_ok, known_name, length_known_body}
use Rattle.frames.proofs.Writing.{length_digits, length-cost_digits, length_body, length_line}

-- ---- parts

-- three texts, taken apart again
parts_back : (m n r : ℕ) (u v w : List ℕ) → length u ≡ m → length v ≡ n → length w ≡ r
    → (part 0 m (u ++ (v ++ w)) ≡ u) × (part m n (u ++ (v ++ w)) ≡ v) × (part (m + n) r (u ++ (v ++ w)) ≡ w)
parts_back m n r u v w lu lv lw = (grind (arith, common_steps), grind (arith, common_steps), grind (arith, common_steps, drop-drop n m (u ++ (v ++ w))))

-- a text in three parts
three_parts : (b : List ℕ) (m n r : ℕ) → length b ≡ m + n + r → part 0 m b ++ (part m n b ++ part (m + n) r b) ≡ b
three_parts b m n r e =
    let last : part (m + n) r b ≡ drop n (drop m b) = take_all r (drop (m + n) b) (omega (arith, length-drop (m + n) b)) ∙ sym (drop-drop n m b) in
    rw (last, take-append-drop n (drop m b), take-append-drop m b)

part_digits : (i n : ℕ) (b : List ℕ) → i + n ≤ length b → all_digits b ≡ true → digits n (value (part i n b)) ≡ part i n b
part_digits i n b h d = digits_value n (part i n b) (length_part i n b h) (all_digits-take n (drop i b) (all_digits-drop i b d))

-- ---- three numbers

numbers_back : (a b c x y z : ℕ) → x < 16 ^ a → y < 16 ^ b → z < 16 ^ c
    → (value (part 0 a (digits a x ++ (digits b y ++ digits c z))) ≡ x) × (value (part a b (digits a x ++ (digits b y ++ digits c z))) ≡ y)
    × (value (part (a + b) c (digits a x ++ (digits b y ++ digits c z))) ≡ z)
numbers_back a b c x y z h k l =
    let p = parts_back a b c (digits a x) (digits b y) (digits c z) (length_digits a x) (length_digits b y) (length_digits c z) in
    (ap value p.0 ∙ value-digits a x h, ap value p.1 ∙ value-digits b y k, ap value p.2 ∙ value-digits c z l)

numbers_again : (a b c : ℕ) (t : List ℕ) → length t ≡ a + b + c → all_digits t ≡ true
    → digits a (value (part 0 a t)) ++ (digits b (value (part a b t)) ++ digits c (value (part (a + b) c t))) ≡ t
numbers_again a b c t e d =
    let x = part_digits 0 a t (omega arith) d in
    let y = part_digits a b t (omega arith) d in
    let z = part_digits (a + b) c t (omega arith) d in
    (λ i. x i ++ (y i ++ z i)) ∙ three_parts t a b c e

-- ---- bodies

three_numbers : (a b c x y z : ℕ) → all_digits (digits a x ++ (digits b y ++ digits c z)) ≡ true
three_numbers a b c x y z = all_digits-append (digits a x) _ (all_digits-digits a x) (all_digits-append (digits b y) (digits c z) (all_digits-digits b y) (all_digits-digits c z))

all_digits_cost : (c : WeaveCost) → all_digits (cost_digits c) ≡ true
all_digits_cost c = three_numbers 4 8 8 c.first.value c.second.first.bits c.second.second.value

all_digits_body : (e : Entry) → all_digits (body e) ≡ true
all_digits_body (entry.Header h) = three_numbers 4 4 4 h.motifs h.start h.goal
all_digits_body (entry.Link l) = grind (arith, list_all-append, all_digits-digits, all_digits_cost l.cost)
all_digits_body (entry.Guide c) = all_digits_cost c
all_digits_body (entry.Limits c) = all_digits_cost c
all_digits_body entry.End = refl

cost_back : (c : WeaveCost) → CostFits c → cost_of (cost_digits c) ≡ c
cost_back c h =
    let p = numbers_back 4 8 8 c.first.value c.second.first.bits c.second.second.value h.0 h.1 h.2 in
    λ i. record { first = record { value = p.0 i }; second = record { first = record { bits = p.1 i }; second = record { value = p.2 i } } }

entry_back : (e : Entry) → EntryFits e → entry_at (entry_kind e) (body e) ≡ e
entry_back (entry.Header x) h =
    let p = numbers_back 4 4 4 x.motifs x.start x.goal h.0 h.1 h.2 in
    λ i. entry.Header (record { motifs = p.0 i; start = p.1 i; goal = p.2 i })
entry_back (entry.Link x) h =
    let p = parts_back 4 4 20 (digits 4 x.from) (digits 4 x.to) (cost_digits x.cost) (length_digits 4 _) (length_digits 4 _) (length-cost_digits _) in
    let from = ap value p.0 ∙ value-digits 4 x.from h.0 in
    let to = ap value p.1 ∙ value-digits 4 x.to h.1 in
    let cost = ap cost_of p.2 ∙ cost_back x.cost h.2 in
    λ i. entry.Link (record { from = from i; to = to i; cost = cost i })
entry_back (entry.Guide c) h = ap entry.Guide (cost_back c h)
entry_back (entry.Limits c) h = ap entry.Limits (cost_back c h)
entry_back entry.End h = refl

cost_again : (b : List ℕ) → length b ≡ 20 → all_digits b ≡ true → cost_digits (cost_of b) ≡ b
cost_again b e d = numbers_again 4 8 8 b e d

body_again : (k : Kind) (b : List ℕ) → length b ≡ body_length k → all_digits b ≡ true → body (entry_at k b) ≡ b
body_again kind.Header b e d = numbers_again 4 4 4 b e d
body_again kind.Link b e d =
    let from = part_digits 0 4 b (omega arith) d in
    let to = part_digits 4 4 b (omega arith) d in
    let cost = cost_again (part 8 20 b) (length_part 8 20 b (omega arith)) (all_digits-take 20 (drop 8 b) (all_digits-drop 8 b d)) in
    (λ i. from i ++ (to i ++ cost i)) ∙ three_parts b 4 4 20 e
body_again kind.Guide b e d = cost_again b e d
body_again kind.Limits b e d = cost_again b e d
body_again kind.End b e d = sym (nil_from_length b e)

pub kind_again : (k : Kind) (b : List ℕ) → entry_kind (entry_at k b) ≡ k
kind_again k b = grind arith

code_back : (k : Kind) → coded (code k) ≡ Some k
code_back k = grind arith

code_small : (k : Kind) → code k < 16 ^ 2
code_small k = grind arith

even_body : (k : Kind) → body_length k % 2 ≡ 0
even_body k = grind arith

-- only that byte names a kind
code_again : (n : ℕ) (k : Kind) → coded n ≡ Some k → n ≡ code k
code_again n k e = grind (arith, nat_tests)

-- ---- lines

-- digits and a line feed
framed_text : (t : List ℕ) → 2 ≤ length t → length t % 2 ≡ 0 → all_digits t ≡ true → is_frame (t ++ (10 ∷ [])) ≡ true
framed_text t h e d = grind (arith, common_steps, nat_tests)

module _ (l : List ℕ) (framed : is_frame l ≡ true) where
  pub frame_length : 3 ≤ length l
  frame_length = grind (arith, nat_tests)

  frame_digits : all_digits (take (length l - 1) l) ≡ true
  frame_digits = grind (arith, nat_tests)

  frame_feed : get_or l (length l - 1) 0 ≡ 10
  frame_feed = grind (arith, nat_tests)

  -- a frame: its first byte, its body, its line feed
  frame_parts : l ≡ take 2 l ++ (body_of l ++ (10 ∷ []))
  frame_parts =
      let long = frame_length in
      let last : part (2 + (length l - 3)) 1 l ≡ 10 ∷ [] = grind (arith, common_steps, frame_feed, drop_more l (length l - 1) 0 (omega arith)) in
      sym (three_parts l 2 (length l - 3) 1 (omega arith)) ∙ ap (λ x. take 2 l ++ (body_of l ++ x)) last

  -- what was read is written again
  pub line_again : (k : Kind) → kind_of l ≡ Some k → line_of (entry_at k (body_of l)) ≡ l
  unfolding line_of
  line_again k e =
      let long = frame_length in
      let first : digits 2 (code k) ≡ take 2 l =
      ap (digits 2) (sym (code_again (value (take 2 l)) k (known_name l k e)))
      ∙ digits_value 2 (take 2 l) (length-take-le 2 l (omega arith)) (ap all_digits (sym (take-take 2 (length l - 1) l (omega arith))) ∙ all_digits-take 2 (take (length l - 1) l) frame_digits) in
      let rest : body (entry_at k (body_of l)) ≡ body_of l =
      body_again k (body_of l) (length_known_body l k e) (ap all_digits (sym (body-drop l long)) ∙ all_digits-drop 2 (take (length l - 1) l) frame_digits) in
      (λ i. digits 2 (code (kind_again k (body_of l) i)) ++ (rest i ++ (10 ∷ []))) ∙ ap (λ x. x ++ (body_of l ++ (10 ∷ []))) first ∙ sym frame_parts

-- a frame that was read is the line of what it said
pub read_again : (l : List ℕ) (e : Entry) → read_line l ≡ Ok e → line_of e ≡ l
read_again l e h = go (is_frame l) refl (kind_of l) refl h where
  go : (x : Bool) → is_frame l ≡ x → (o : Option Kind) → kind_of l ≡ o → cond x (ok_or (option_map (λ k. entry_at k (body_of l)) o) UnknownFrame) (Err NotAFrame) ≡ Ok e → line_of e ≡ l
  go true t (Some k) s h = grind (arith, line_again l t k s)
  go true t None s h = grind arith
  go false t o s h = grind arith

-- what was written is a frame, of its kind
pub line_framed : (e : Entry) → is_frame (line_of e) ≡ true
unfolding line_of
line_framed e =
    let u = digits 2 (code (entry_kind e)) in
    ap is_frame (sym (append_assoc u (body e) (10 ∷ [])))
    ∙ framed_text (u ++ body e) (grind (arith, common_steps, length_digits)) (grind (arith, common_steps, length_digits, length_body, even_body))
    (all_digits-append u (body e) (all_digits-digits 2 (code (entry_kind e))) (all_digits_body e))

pub line_kind : (e : Entry) → kind_of (line_of e) ≡ Some (entry_kind e)
unfolding line_of
line_kind e =
    let k = entry_kind e in
    let n = length_line e in
    let first : value (take 2 (line_of e)) ≡ code k = ap value (take_at (digits 2 (code k)) (body e ++ (10 ∷ [])) 2 (length_digits 2 (code k))) ∙ value-digits 2 (code k) (code_small k) in
    kind_known (line_of e) (omega arith) k (ap coded first ∙ code_back k) (omega arith)

pub line_body : (e : Entry) → body_of (line_of e) ≡ body e
unfolding line_of
line_body e =
    let size : length (body e) ≡ length (line_of e) - 3 = omega (arith, length_line e, length_body e) in
    (parts_back 2 (length (line_of e) - 3) 1 (digits 2 (code (entry_kind e))) (body e) (10 ∷ []) (length_digits 2 _) size refl).1

-- what was written reads back
pub read_back : (e : Entry) → EntryFits e → ReadsBack e
read_back e h =
    let l = line_of e in
    let said : entry_of l ≡ Some e = ap (option_map (λ k. entry_at k (body_of l))) (line_kind e) ∙ ap (λ b. Some (entry_at (entry_kind e) b)) (line_body e) ∙ ap Some (entry_back e h) in
    cond-true (is_frame l) _ _ (line_framed e) ∙ ap (λ o. ok_or o UnknownFrame) said

-- a line that was written is the first line of what begins with it
pub lines_line : (e : Entry) (s : List ℕ) → lines (line_of e ++ s) ≡ line_of e ∷ lines s
unfolding line_of
lines_line e s =
    let u = digits 2 (code (entry_kind e)) in
    let t = append_assoc u (body e) (10 ∷ []) in
    ap (λ x. lines (x ++ s)) (sym t) ∙ lines_text (u ++ body e) s (all_digits-append u (body e) (all_digits-digits 2 (code (entry_kind e))) (all_digits_body e)) ∙ ap (λ x. x ∷ lines s) t

-- what a line that reads back says
pub said_back : (e : Entry) → ReadsBack e → entry_of (line_of e) ≡ Some e
said_back e h = some_from_ok (entry_of (line_of e)) e (sym (cond-true (is_frame (line_of e)) _ _ (line_framed e)) ∙ h)
