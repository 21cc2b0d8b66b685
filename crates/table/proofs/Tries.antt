-- What a new trail comes to, by whether a used one withstands it.
use Rattle.std.proofs.Common.{◌≡◌, ℕ, ◌+◌, ◌≤◌, true, false, List, ◌++◌, length, map, take, drop, set, sym, ap, ◌∙◌, add-one}
use Rattle.std.specs.List.{list_any}
use Rattle.std.proofs.lemmas.Bool.{cond-true, cond-false}
use Rattle.scale.specs.declared.scales.Scale.{Ghosts}
use Rattle.trails.specs.declared.trails.Trail.{Trail}
use Rattle.trails.specs.Tables.{tabled}
use Rattle.trails.specs.Expanding.{withstands, beside, dropped, added, tried}
use Rattle.table.proofs.Comparing.{withstood_is}

module _ {S : Type 0} (s : Ghosts S) (new : Trail S) (trails : List (Trail S)) (used : ℕ) (fits : used ≤ length trails) where
  -- one does, and the table stays as it is
  pub tried_discarded : true ≡ list_any (withstands s new) (take used trails) → tabled trails used ≡ tried s new (tabled trails used)
  unfolding tried
  tried_discarded hit = sym (cond-true _ _ _ (withstood_is s new trails used fits ∙ sym hit))

  -- none does, and it takes the next place among the trails that are left
  pub tried_added : false ≡ list_any (withstands s new) (take used trails) → (front : List (Trail S)) → front ≡ map (beside s new) (take used trails)
      → tabled (set (front ++ drop used trails) used new) (used + 1) ≡ tried s new (tabled trails used)
  unfolding tried added dropped
  tried_added miss front e =
      ap (λ (xs : List (Trail S)). tabled (set (xs ++ drop used trails) used new) (used + 1)) e
      ∙ ap (λ (n : ℕ). tabled (set (map (beside s new) (take used trails) ++ drop used trails) used new) n) (add-one used)
      ∙ sym (cond-false _ _ _ (withstood_is s new trails used fits ∙ sym miss))
