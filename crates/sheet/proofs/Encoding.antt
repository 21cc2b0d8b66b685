-- Lines written one behind another.
use Rattle.std.proofs.Common.{◌≡◌, ℕ, ◌+◌, ◌*◌, ◌<◌, ◌≤◌, cond, leb, List, [], ◌∷◌, ◌++◌, map, length, get_or, drop, Ok, Err, Result, sym, refl, ap, ◌∙◌, subst, arith}
use Rattle.std.proofs.lemmas.Grind.{flat_map-append}
use Rattle.std.proofs.lemmas.List.{at_drop_more, drop_more, append_assoc, length-append}
use Rattle.std.proofs.ByRecursion.{All-append}
use Rattle.std.proofs.lemmas.Bool.{cond-true, le-leb}
use Rattle.std.specs.List.{AllByRecursion}
use Rattle.repertoire.specs.declared.refusals.Refusal.{Refusal}
use Rattle.repertoire.specs.declared.refusals.Refusal.TheVariants.{BufferTooShort}
use Rattle.frames.specs.declared.entries.Entry.{Entry}
use Rattle.frames.specs.declared.entries.Entry.TheVariants as entry
use Rattle.frames.specs.Frames.{body_length, entry_kind, line_of, over, ReadsBack}
use Rattle.frames.proofs.Writing.{over-over, length_line}
use Rattle.sheet.specs.Sheets.{Sheet, entries_of, written, text_of, onto}

-- ---- one text behind another

pub over_then : (b c d u v : List ℕ) (at n : ℕ) → n ≡ at + length u → n ≤ length b → c ≡ over b at u → d ≡ over c n v → d ≡ over b at (u ++ v)
over_then b c d u v at n e h p q = q ∙ (λ i. over (p i) (e i) v) ∙ over-over b u v at (length u) refl (omega arith)

-- ---- a line for each row

-- a line that was written where there is room ends behind its length
pub line_ends_at : (b : List ℕ) (at : ℕ) (e : Entry) → at + length (line_of e) ≤ length b → {r : Result ℕ Refusal} (n : ℕ) → r ≡ Ok n → r ≡ cond (leb (at + length (line_of e)) (length b)) (Ok (at + length (line_of e))) (Err BufferTooShort) → n ≡ at + length (line_of e)
line_ends_at b at e room n p q = let e : Ok n ≡ Ok (at + length (line_of e)) = sym p ∙ q ∙ cond-true _ _ _ (le-leb _ _ room) in cc

-- where rows end that were written
pub rows_end : {n m : ℕ} → ◌≡◌ {A = Result ℕ Refusal} (Ok n) (Ok m) → n ≡ m
rows_end e = cc

pub text_more : {R : Type 0} (said : R → Entry) (rows : List R) (i : ℕ) (x : R) (e : Entry) → i < length rows → x ≡ get_or rows i x → e ≡ said x → text_of (map said (drop i rows)) ≡ line_of e ++ text_of (map said (drop (i + 1) rows))
text_more said rows i x e lt read entry =
    let step : text_of (map said (drop i rows)) ≡ line_of (said (get_or rows i x)) ++ text_of (map said (drop (i + 1) rows)) = at_drop_more (λ l. text_of (map said l)) rows i x lt in
    step ∙ ap (λ y. line_of y ++ text_of (map said (drop (i + 1) rows))) (ap said (sym read) ∙ sym entry)

-- they read back, one more and none
pub all_more : {R : Type 0} (said : R → Entry) (rows : List R) (i : ℕ) (x : R) (e : Entry) → i < length rows → x ≡ get_or rows i x → e ≡ said x → ReadsBack e → AllByRecursion ReadsBack (map said (drop (i + 1) rows)) → AllByRecursion ReadsBack (map said (drop i rows))
all_more said rows i x e lt read entry back rest =
    subst (λ l. AllByRecursion ReadsBack (map said l)) (sym (drop_more rows i x lt)) (subst ReadsBack (entry ∙ ap said read) back, rest)

-- ---- a whole sheet

length_rows : {R : Type 0} (said : R → Entry) (n : ℕ) → ((x : R) → length (line_of (said x)) ≡ n) → (rows : List R) → length (text_of (map said rows)) ≡ n * length rows
length_rows said n each [] = omega arith
length_rows said n each (x ∷ xs) = omega (arith, length-append (line_of (said x)) (text_of (map said xs)), each x, length_rows said n each xs)

-- two lines, whatever they say
pub two_lines : (d e : Entry) → length (text_of (d ∷ (e ∷ []))) ≡ body_length (entry_kind d) + (body_length (entry_kind e) + 6)
two_lines d e = omega (arith, length-append (line_of d) (line_of e ++ []), length-append (line_of e) [], length_line d, length_line e)

module _ (s : Sheet) where
  -- its four parts
  abbrev head : List ℕ
  head = text_of (entry.Header s.header ∷ [])

  abbrev links : List ℕ
  links = text_of (map entry.Link s.links)

  abbrev guides : List ℕ
  guides = text_of (map entry.Guide s.guides)

  abbrev tail : List ℕ
  tail = text_of (entry.Limits s.limits ∷ (entry.End ∷ []))

  written_parts : written s ≡ head ++ (links ++ (guides ++ tail))
  written_parts =
      let last : List Entry = entry.Limits s.limits ∷ (entry.End ∷ []) in
      let behind : List Entry = map entry.Guide s.guides ++ last in
      flat_map-append line_of (entry.Header s.header ∷ []) (map entry.Link s.links ++ behind)
      ∙ ap (λ r. head ++ r) (flat_map-append line_of (map entry.Link s.links) behind ∙ ap (λ r. links ++ r) (flat_map-append line_of (map entry.Guide s.guides) last))

  -- their lengths
  pub record Lengths : Type 0 where
    pub head_is : length head ≡ 15
    pub links_is : length links ≡ 31 * length s.links
    pub guides_is : length guides ≡ 23 * length s.guides
    pub tail_is : length tail ≡ 26
    pub whole : length (written s) ≡ 41 + 31 * length s.links + 23 * length s.guides

  pub lengths : Lengths
  lengths =
      let h = line_of (entry.Header s.header) in
      let head_is : length head ≡ 15 = omega (arith, length-append h [], length_line (entry.Header s.header)) in
      let tail_is : length tail ≡ 26 = two_lines (entry.Limits s.limits) entry.End in
      let links_is = length_rows entry.Link 31 (λ l. length_line (entry.Link l)) s.links in
      let guides_is = length_rows entry.Guide 23 (λ g. length_line (entry.Guide g)) s.guides in
      record {
        head_is = head_is;
        links_is = links_is;
        guides_is = guides_is;
        tail_is = tail_is;
        whole = omega (arith, ap length written_parts, length-append head (links ++ (guides ++ tail)), length-append links (guides ++ tail), length-append guides tail);
      }

  -- one part behind another from the front
  pub written_front : (b c d e f : List ℕ) (i j k : ℕ) → length (written s) ≤ length b → i ≡ 0 + length head → j ≡ i + length links → k ≡ j + length guides
      → c ≡ over b 0 head → d ≡ over c i links → e ≡ over d j guides → f ≡ over e k tail → f ≡ onto (written s) b
  written_front b c d e f i j k room pi pj pk hc hd he hf =
      let size = lengths in
      let two = over_then b c d head links 0 i pi (omega arith) hc hd in
      let three = over_then b d e (head ++ links) guides 0 j (omega (arith, length-append head links)) (omega arith) two he in
      let four = over_then b e f ((head ++ links) ++ guides) tail 0 k (omega (arith, length-append head links, length-append (head ++ links) guides)) (omega arith) three hf in
      let whole : ((head ++ links) ++ guides) ++ tail ≡ written s = append_assoc (head ++ links) guides tail ∙ append_assoc head links (guides ++ tail) ∙ sym written_parts in
      let at : 0 + length (written s) ≡ length (written s) = omega arith in
      four ∙ ap (over b 0) whole ∙ ap (λ m. written s ++ drop m b) at

  -- all its entries read back
  pub each_back : AllByRecursion ReadsBack (entry.Header s.header ∷ []) → AllByRecursion ReadsBack (map entry.Link s.links) → AllByRecursion ReadsBack (map entry.Guide s.guides) → AllByRecursion ReadsBack (entry.Limits s.limits ∷ (entry.End ∷ []))
      → AllByRecursion ReadsBack (entries_of s)
  each_back first rows more last = (first.0, All-append ReadsBack (map entry.Link s.links) _ rows (All-append ReadsBack (map entry.Guide s.guides) _ more last))
