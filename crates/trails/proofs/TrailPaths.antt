-- A used trail's path leads from the start to its motif at its cost, and different places have different paths.
use Rattle.std.proofs.Common.{◌≡◌, ℕ, zero, suc, ◌<◌, ◌≤◌, List, [], ◌∷◌, ◌++◌, sym, refl, ◌∙◌, ⊎_elim, arith}
use Rattle.std.proofs.lemmas.Bool.{cases_eq}
use Rattle.scale.specs.declared.scales.Scale.{Ghosts}
use Rattle.trails.specs.declared.trails.Trail.{Trail}
use Rattle.trails.specs.Repertoires.{Repertoire}
use Rattle.trails.specs.Paths.{IsPath, path_cost}
use Rattle.trails.specs.Tables.{trail_at, path_back, trail_path}
use Rattle.trails.proofs.Invariant.{Grown, Single}
use Rattle.trails.proofs.Paths.{path_append, cost_append}

-- a row with one more at its end is not empty, and tells both its parts
not_empty : (xs : List ℕ) (k : ℕ) → [] ≡ xs ++ (k ∷ []) → ⊥
not_empty [] k e = cc
not_empty (x ∷ xs) k e = cc

parts : (xs ys : List ℕ) (a b : ℕ) → xs ++ (a ∷ []) ≡ ys ++ (b ∷ []) → (xs ≡ ys) × (a ≡ b)
parts [] [] a b e = (refl, cc)
parts [] (y ∷ ys) a b e = absurd (not_empty ys b (cc))
parts (x ∷ xs) [] a b e = absurd (not_empty xs a (cc))
parts (x ∷ xs) (y ∷ ys) a b e = let rest = parts xs ys a b (cc) in let h : x ≡ y = cc in (cc (h, rest.0), rest.1)

-- every used place after place 0 has a lower parent
abbrev pub Lower : {S : Type 0} → Ghosts S → List (Trail S) → ℕ → Type 0
Lower s trails used = (i : ℕ) → 0 < i → i < used → (trail_at s trails i).parent < i

module _ {S : Type 0} (s : Ghosts S) (trails : List (Trail S)) (used : ℕ) (lower : Lower s trails used) where
  -- what holds of place 0 and goes over from parent to child holds of every used place
  pub by_parent : (P : ℕ → Type 0) → P 0 → ((i : ℕ) → 0 < i → i < used → P (trail_at s trails i).parent → P i) → (i : ℕ) → i < used → P i
  by_parent P first on i u = go (suc i) i (omega arith) u
    where
      go : (n i : ℕ) → i < n → i < used → P i
      go zero i h u = absurd (omega arith)
      go (suc n) i h u = ⊎_elim (λ (e : i ≡ 0). rw e first)
          (λ (ne : i ≡ 0 → ⊥). let lo = lower i (omega arith) u in on i (omega arith) u (go n (trail_at s trails i).parent (omega arith) (omega arith)))
          (cases_eq i 0)

  -- so many links as the number of the place are enough for the path
  enough : (n m i : ℕ) → i ≤ n → i ≤ m → i < used → path_back s trails n i ≡ path_back s trails m i
  enough zero zero i hn hm u = refl
  enough zero (suc m) zero hn hm u = refl
  enough zero (suc m) (suc i) hn hm u = absurd (omega arith)
  enough (suc n) zero zero hn hm u = refl
  enough (suc n) zero (suc i) hn hm u = absurd (omega arith)
  enough (suc n) (suc m) zero hn hm u = refl
  enough (suc n) (suc m) (suc i) hn hm u =
      let lo = lower (suc i) (omega arith) u in rw (enough n m (trail_at s trails (suc i)).parent (omega arith) (omega arith) (omega arith))

  -- a trail's path is its parent's and then its own link
  pub path_grows : (i : ℕ) → 0 < i → i < used → trail_path s trails i ≡ trail_path s trails (trail_at s trails i).parent ++ ((trail_at s trails i).link ∷ [])
  path_grows zero z u = absurd (omega arith)
  path_grows (suc n) z u = let p : ℕ = (trail_at s trails (suc n)).parent in let lo : p < suc n = lower (suc n) z u in
      rw (enough n p p (omega arith) (omega arith) (omega arith))

-- ---- the trails of a table that has grown

pub grown_lower : {S : Type 0} (s : Ghosts S) (r : Repertoire S) (trails : List (Trail S)) (used : ℕ) → Grown s r trails used → Lower s trails used
grown_lower s r trails used grown i z u = (grown.on i z u).lower

module _ {S : Type 0} (s : Ghosts S) (r : Repertoire S) (trails : List (Trail S)) (used : ℕ) (grown : Grown s r trails used) where
  lower : Lower s trails used
  lower = grown_lower s r trails used grown

  pub trail_leads : (i : ℕ) → i < used → IsPath s r r.header.start (trail_at s trails i).motif (trail_path s trails i)
  trail_leads = by_parent s trails used lower (λ i. IsPath s r r.header.start (trail_at s trails i).motif (trail_path s trails i)) (sym grown.first.motif_is)
      (λ i z u p. let g = grown.on i z u in rw (path_grows s trails used lower i z u) (path_append s r r.header.start _ _ _ ((trail_at s trails i).link ∷ []) p (g.real, g.leaves, g.reaches)))

  pub trail_costs : (i : ℕ) → i < used → path_cost s r (trail_path s trails i) ≡ (trail_at s trails i).cost
  trail_costs = by_parent s trails used lower (λ i. path_cost s r (trail_path s trails i) ≡ (trail_at s trails i).cost) (sym grown.first.cost_is)
      (λ i z u p. rw (path_grows s trails used lower i z u, cost_append s r, p) (sym (grown.on i z u).costs))

  pub paths_differ : Single s trails used → (i : ℕ) → i < used → (j : ℕ) → j < used → trail_path s trails i ≡ trail_path s trails j → i ≡ j
  paths_differ single = by_parent s trails used lower (λ i. (j : ℕ) → j < used → trail_path s trails i ≡ trail_path s trails j → i ≡ j)
      (λ j v e. ⊎_elim (λ (z : j ≡ 0). sym z) (λ (z : j ≡ 0 → ⊥). absurd (not_empty _ _ (e ∙ path_grows s trails used lower j (omega arith) v))) (cases_eq j 0))
      (λ i z u ih j v e. ⊎_elim (λ (y : j ≡ 0). absurd (not_empty _ _ (sym (rw y at e) ∙ path_grows s trails used lower i z u)))
      (λ (y : j ≡ 0 → ⊥). let lo = lower j (omega arith) v in let p = parts _ _ _ _ (sym (path_grows s trails used lower i z u) ∙ e ∙ path_grows s trails used lower j (omega arith) v) in
      single.apart i j z u (omega arith) v (ih _ (omega arith) p.0) p.1)
      (cases_eq j 0))
