-- Liking by a first part and then by a second, over truth values.
use Rattle.std.proofs.Common.{◌≡◌, Bool, true, false, cond, ◌&&◌, ◌⊎◌, sym, refl, ◌∙◌, inl, inr, ⊎_elim}
use Rattle.std.proofs.lemmas.Bool.{both_ways, cond-true}

-- a, b: the first and the second part are liked as well as the others'; a', b': the other way round
pub lex_total : (a a' b b' : Bool) → (a ≡ true) ⊎ (a' ≡ true) → (b ≡ true) ⊎ (b' ≡ true) → ((a && cond a' b true) ≡ true) ⊎ ((a' && cond a b' true) ≡ true)
lex_total true true b b' h k = k
lex_total true false b b' h k = inl refl
lex_total false true b b' h k = inr refl
lex_total false false b b' h k = ⊎_elim (λ e. absurd (both_ways false refl e)) (λ e. absurd (both_ways false refl e)) h

-- the second part decides only where the first is level
pub second_decides : (a b : Bool) → (a ≡ true → b ≡ true) → cond a b true ≡ true
second_decides true b h = h refl
second_decides false b h = refl

pub second_decided : (a b : Bool) → cond a b true ≡ true → a ≡ true → b ≡ true
second_decided a b h e = sym (cond-true a b true e) ∙ h
