-- A sheet that was accepted is written again, and a sheet that was written reads back.
use Rattle.std.proofs.Common.{◌≡◌, ℕ, ◌+◌, ◌≤◌, Bool, true, false, cond, ◌&&◌, ltb, List, [], ◌∷◌, ◌++◌, map, length, is_some, IfOk, Some, None, Ok, Err, Option, Result, sym, refl, ap, ◌∙◌}
use Rattle.std.proofs.lemmas.Bool.{cond-true, cond-false, and_parts, le-ltb, ltb-false}
use Rattle.std.specs.List.{flat_map, AllByRecursion}
use Rattle.std.specs.Option.{option_map, option_to_list}
use Rattle.repertoire.specs.declared.refusals.Refusal.{Refusal}
use Rattle.repertoire.specs.declared.refusals.Refusal.TheVariants.{NotAFrame, UnknownFrame, FrameOutOfOrder, TooFewRows}
use Rattle.frames.specs.declared.kinds.Kind.{Kind}
use Rattle.frames.specs.declared.entries.Entry.{Entry}
use Rattle.frames.specs.Frames.{is_frame, kind_of, body_of, entry_at, entry_kind, line_of, ReadsBack}
use Rattle.frames.specs.Lines.{lines}
use Rattle.frames.proofs.Cuts.{lines_joined}
use Rattle.frames.proofs.RoundTrip.{kind_again, line_again, line_framed, line_kind, lines_line, said_back}
use Rattle.sheet.specs.declared.faults.Fault.{Fault}
use Rattle.sheet.specs.Order.{may_follow, may_end, comes, behind, first_not, misplaced}
use Rattle.sheet.specs.Sheets.{Sheet, entries_of, written, entries_in, links_in, guides_in, gathered, rowless, unless, decoded}
use Rattle.sheet.proofs.Arranged.{in_order, arranged, gathered_back, entries_in_order}

-- ---- accepted, so written again

-- each line of an accepted sheet is the line of its entry, and the entries keep the order of the lines
lines_again : (n : ℕ) (ls : List (List ℕ)) → first_not n is_frame ls ≡ None → first_not n (λ l. is_some (kind_of l)) ls ≡ None → flat_map line_of (entries_in ls) ≡ flat_map (λ l. l) ls
lines_again n [] f k = refl
lines_again n (l ∷ ls) f k = go (is_frame l) refl (kind_of l) refl f k (lines_again (n + 1) ls) where
  go : (x : Bool) → is_frame l ≡ x → (o : Option Kind) → kind_of l ≡ o → cond x (first_not (n + 1) is_frame ls) (Some n) ≡ None → cond (is_some o) (first_not (n + 1) (λ r. is_some (kind_of r)) ls) (Some n) ≡ None
      → (first_not (n + 1) is_frame ls ≡ None → first_not (n + 1) (λ r. is_some (kind_of r)) ls ≡ None → flat_map line_of (entries_in ls) ≡ flat_map (λ r. r) ls)
      → flat_map line_of (option_to_list (option_map (λ j. entry_at j (body_of l)) o) ++ entries_in ls) ≡ l ++ flat_map (λ r. r) ls
  go true e (Some j) d f k rest = (λ i. line_again l e j d i ++ rest f k i)
  go true e None d f k rest = cc
  go false e o d f k rest = cc

order_again : (n : ℕ) (last : Option Kind) (ls : List (List ℕ)) → first_not n (λ l. is_some (kind_of l)) ls ≡ None → misplaced n last ls ≡ None → in_order last (entries_in ls) ≡ true
order_again n last [] k m = go (may_end last) m where
  go : (x : Bool) → cond x None (Some n) ≡ None → x ≡ true
  go true e = refl
  go false e = cc
order_again n last (l ∷ ls) k m = go (kind_of l) k m (λ j. order_again (n + 1) (Some j) ls) where
  may : (x b : Bool) (rest : Option ℕ) → (rest ≡ None → b ≡ true) → cond x rest (Some n) ≡ None → (x && b) ≡ true
  may true b rest then e = then e
  may false b rest then e = cc

  go : (o : Option Kind) → cond (is_some o) (first_not (n + 1) (λ r. is_some (kind_of r)) ls) (Some n) ≡ None → cond (comes last o) (misplaced (n + 1) (behind last o) ls) (Some n) ≡ None
      → ((j : Kind) → first_not (n + 1) (λ r. is_some (kind_of r)) ls ≡ None → misplaced (n + 1) (Some j) ls ≡ None → in_order (Some j) (entries_in ls) ≡ true)
      → in_order last (option_to_list (option_map (λ j. entry_at j (body_of l)) o) ++ entries_in ls) ≡ true
  go None k m rest = cc
  go (Some j) k m rest =
      (λ i. may_follow last (kind_again j (body_of l) i) && in_order (Some (kind_again j (body_of l) i)) (entries_in ls))
      ∙ may (may_follow last j) (in_order (Some j) (entries_in ls)) (misplaced (n + 1) (Some j) ls) (rest j k) m

unless_ok : {A : Type 0} (o : Option ℕ) (why : Refusal) (r : Result A Fault) (x : A) → unless o why r ≡ Ok x → (o ≡ None) × (r ≡ Ok x)
unless_ok None why r x e = (refl, e)
unless_ok (Some n) why r x e = cc

-- what holds of an accepted sheet
pub record Accepted (link_rows guide_rows : ℕ) (s : List ℕ) (sheet : Sheet) : Type 0 where
  pub framed : first_not 1 is_frame (lines s) ≡ None
  pub known : first_not 1 (λ l. is_some (kind_of l)) (lines s) ≡ None
  pub order : misplaced 1 None (lines s) ≡ None
  pub room : rowless link_rows guide_rows (length (links_in (entries_in (lines s)))) (length (guides_in (entries_in (lines s)))) ≡ None
  pub is : gathered (entries_in (lines s)) ≡ sheet

accepted : (link_rows guide_rows : ℕ) (s : List ℕ) (sheet : Sheet) → decoded link_rows guide_rows s ≡ Ok sheet → Accepted link_rows guide_rows s sheet
accepted link_rows guide_rows s sheet h =
    let ls = lines s in
    let es = entries_in ls in
    let framed = unless_ok (first_not 1 is_frame ls) NotAFrame _ sheet h in
    let known = unless_ok (first_not 1 (λ l. is_some (kind_of l)) ls) UnknownFrame _ sheet framed.1 in
    let order = unless_ok (misplaced 1 None ls) FrameOutOfOrder _ sheet known.1 in
    let room = unless_ok (rowless link_rows guide_rows (length (links_in es)) (length (guides_in es))) TooFewRows _ sheet order.1 in
    record { framed = framed.0; known = known.0; order = order.0; room = room.0; is = let e = room.1 in cc }

-- its links and guides have rows
rows_from_none : (link_rows guide_rows links guides : ℕ) → rowless link_rows guide_rows links guides ≡ None → (links ≤ link_rows) × (guides ≤ guide_rows)
rows_from_none a b c d h = go (ltb a c) (ltb b d) refl refl h where
  go : (x y : Bool) → ltb a c ≡ x → ltb b d ≡ y → cond x (Some (a + 2)) (cond y (Some (c + b + 2)) None) ≡ None → (c ≤ a) × (d ≤ b)
  go false false p q e = (ltb-false a c p, ltb-false b d q)
  go true y p q e = cc
  go false true p q e = cc

pub accepted_rows : (link_rows guide_rows : ℕ) (s : List ℕ) (sheet : Sheet) → decoded link_rows guide_rows s ≡ Ok sheet → (length (links_in (entries_in (lines s))) ≤ link_rows) × (length (guides_in (entries_in (lines s))) ≤ guide_rows)
accepted_rows link_rows guide_rows s sheet h = rows_from_none link_rows guide_rows _ _ (accepted link_rows guide_rows s sheet h).room

written_again : (link_rows guide_rows : ℕ) (s : List ℕ) (sheet : Sheet) → decoded link_rows guide_rows s ≡ Ok sheet → written sheet ≡ s
written_again link_rows guide_rows s sheet h =
    let ls = lines s in
    let a = accepted link_rows guide_rows s sheet h in
    ap written (sym a.is) ∙ ap (flat_map line_of) (arranged (entries_in ls) (order_again 1 None ls a.known a.order)) ∙ lines_again 1 ls a.framed a.known ∙ lines_joined s

pub again : (link_rows guide_rows : ℕ) (s : List ℕ) → IfOk (decoded link_rows guide_rows s) (λ sheet. written sheet ≡ s)
again link_rows guide_rows s = go (decoded link_rows guide_rows s) refl where
  go : (r : Result Sheet Fault) → decoded link_rows guide_rows s ≡ r → IfOk r (λ sheet. written sheet ≡ s)
  go (Ok sheet) e = written_again link_rows guide_rows s sheet e
  go (Err f) e = tt

-- ---- written, so read back

lines_written : (es : List Entry) → lines (flat_map line_of es) ≡ map line_of es
unfolding lines
lines_written [] = refl
lines_written (e ∷ es) = lines_line e (flat_map line_of es) ∙ ap (λ ls. line_of e ∷ ls) (lines_written es)

all_framed : (n : ℕ) (es : List Entry) → first_not n is_frame (map line_of es) ≡ None
all_framed n [] = refl
all_framed n (e ∷ es) = cond-true (is_frame (line_of e)) _ _ (line_framed e) ∙ all_framed (n + 1) es

all_known : (n : ℕ) (es : List Entry) → first_not n (λ l. is_some (kind_of l)) (map line_of es) ≡ None
all_known n [] = refl
all_known n (e ∷ es) = cond-true (is_some (kind_of (line_of e))) _ _ (ap is_some (line_kind e)) ∙ all_known (n + 1) es

order_back : (n : ℕ) (last : Option Kind) (es : List Entry) → in_order last es ≡ true → misplaced n last (map line_of es) ≡ None
order_back n last [] h = cond-true (may_end last) _ _ h
order_back n last (e ∷ es) h =
    let p = and_parts (may_follow last (entry_kind e)) (in_order (Some (entry_kind e)) es) h in
    (λ i. cond (comes last (line_kind e i)) (misplaced (n + 1) (behind last (line_kind e i)) (map line_of es)) (Some n))
    ∙ cond-true (may_follow last (entry_kind e)) _ _ p.0 ∙ order_back (n + 1) (Some (entry_kind e)) es p.1

entries_back : (es : List Entry) → AllByRecursion ReadsBack es → entries_in (map line_of es) ≡ es
entries_back [] h = refl
entries_back (e ∷ es) h = λ i. option_to_list (said_back e h.0 i) ++ entries_back es h.1 i

pub read_back : (link_rows guide_rows : ℕ) (s : Sheet) → AllByRecursion ReadsBack (entries_of s) → length s.links ≤ link_rows → length s.guides ≤ guide_rows → decoded link_rows guide_rows (written s) ≡ Ok s
read_back link_rows guide_rows s each room place =
    let es = entries_of s in
    let sheet : gathered (entries_in (map line_of es)) ≡ s = ap gathered (entries_back es each) ∙ gathered_back s in
    let links : length (links_in (entries_in (map line_of es))) ≡ length s.links = ap (λ x. length x.links) sheet in
    let guides : length (guides_in (entries_in (map line_of es))) ≡ length s.guides = ap (λ x. length x.guides) sheet in
    let fits : rowless link_rows guide_rows (length s.links) (length s.guides) ≡ None = cond-false _ _ _ (le-ltb _ _ room) ∙ cond-false _ _ _ (le-ltb _ _ place) in
    ap (λ ls. unless (first_not 1 is_frame ls) NotAFrame (unless (first_not 1 (λ l. is_some (kind_of l)) ls) UnknownFrame (unless (misplaced 1 None ls) FrameOutOfOrder (unless (rowless link_rows guide_rows (length (links_in (entries_in ls))) (length (guides_in (entries_in ls)))) TooFewRows (Ok (gathered (entries_in ls))))))) (lines_written es)
    ∙ (λ i. unless (all_framed 1 es i) NotAFrame (unless (all_known 1 es i) UnknownFrame (unless (order_back 1 None es (entries_in_order s) i) FrameOutOfOrder (unless (rowless link_rows guide_rows (links i) (guides i)) TooFewRows (Ok (sheet i))))))
    ∙ ap (λ o. unless o TooFewRows (Ok s)) fits
