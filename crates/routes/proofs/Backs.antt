-- Walking back along the parents: one place further.
use Rattle.std.proofs.Common.{◌≡◌, ℕ, ◌+◌, ◌<◌, ◌≤◌, List, [], ◌∷◌, ◌++◌, length, get_or, reverse, take, drop, set, ap, ◌∙◌, append_assoc, arith}
use native.Mathlib.Nat.{sub_self}
use Rattle.std.proofs.lemmas.List.{take_more, set-append_right, length-take-le, length-append, length-reverse, reverse-append}
use Rattle.scale.specs.declared.scales.Scale.{Ghosts}
use Rattle.trails.specs.declared.trails.Trail.{Trail}
use Rattle.trails.specs.Tables.{trail_at, trail_path}
use Rattle.trails.proofs.ReadTrails.{read_at}
use Rattle.trails.proofs.TrailPaths.{path_grows}
use Rattle.routes.specs.Walks.{LeadsBack, links_back}

-- x is read at a place of the walk that is not its end
module _ {S : Type 0} (s : Ghosts S) (trails : List (Trail S)) (at : ℕ) (leads : LeadsBack s trails at) (z : 0 < at) (x : Trail S) (read : x ≡ get_or trails at x) where
  -- the walk goes on from a lower place
  pub further : (x.parent < at) × LeadsBack s trails x.parent
  further =
      let lower : x.parent < at = rw (read_at s trails at x leads.0 read) (leads.1 at z (omega arith)) in
      (lower, (omega (arith, leads.0), λ i p h. leads.1 i p (omega arith)))

  -- the links back are that of x, and then those from its parent
  pub first_back : links_back s trails at ≡ x.link ∷ links_back s trails x.parent
  first_back =
      rw (read_at s trails at x leads.0 read)
      (ap reverse (path_grows s trails (at + 1) (λ i p h. leads.1 i p (omega arith)) at z (omega arith))
      ∙ reverse-append (trail_path s trails (trail_at s trails at).parent) ((trail_at s trails at).link ∷ []))

-- k is written in front of what stands behind the first n + 1
set_next : (before rest : List ℕ) (n k : ℕ) → n < length before → set (take (n + 1) before ++ rest) n k ≡ take n before ++ (k ∷ rest)
set_next before rest n k l =
    ap (λ xs. set (xs ++ rest) n k) (take_more before n 0 l) ∙ ap (λ xs. set xs n k) (append_assoc (take n before) (get_or before n 0 ∷ []) rest)
    ∙ set-append_right (take n before) (get_or before n 0 ∷ rest) n n k (length-take-le n before (omega arith)) (omega arith)
    ∙ ap (λ i. take n before ++ set (get_or before n 0 ∷ rest) i k) (sub_self n)

-- what stands written when the links in `left` are still to come, last to first, the next of them at the place below next
pub record Written (path before now left : List ℕ) (count next : ℕ) : Type 0 where
  pub written : List ℕ
  pub counted : next ≡ length left
  pub whole : path ≡ reverse left ++ written
  pub row : now ≡ take next before ++ (written ++ drop count before)

module _ (path before : List ℕ) (count : ℕ) (all : count ≡ length path) (room : count ≤ length before) where
  -- so no more links are to come than there are places
  to_come : {now left : List ℕ} {next : ℕ} → Written path before now left count next → next ≤ length before
  to_come {left = left} w = omega (arith, all, room, w.counted, ap length w.whole, length-append (reverse left) w.written, length-reverse left)

  -- one link more
  pub written_more : {now left rest : List ℕ} {next slot link : ℕ} → Written path before now left count next → left ≡ link ∷ rest → next ≡ slot + 1
      → Written path before (set now slot link) rest count slot
  written_more {rest = rest} {slot = slot} {link = link} w e n =
      let end = w.written ++ drop count before in
      record {
        written = link ∷ w.written;
        counted = omega (arith, n, w.counted, ap length e);
        whole = w.whole ∙ ap (λ xs. reverse xs ++ w.written) e ∙ ap (λ xs. xs ++ w.written) (reverse-append (link ∷ []) rest) ∙ append_assoc (reverse rest) (link ∷ []) w.written;
        row = ap (λ xs. set xs slot link) (w.row ∙ ap (λ i. take i before ++ end) n) ∙ set_next before end slot link (omega (arith, n, to_come w));
      }
