-- Frames are in order exactly where they are the entries of a sheet.
use Rattle.std.proofs.Common.{◌≡◌, Bool, true, ◌&&◌, List, [], ◌∷◌, ◌++◌, map, Some, None, Option, sym, refl, ap, ◌∙◌}
use Rattle.std.proofs.lemmas.List.{append-nil}
use Rattle.scale.specs.Weave.{WeaveCost, woven}
use Rattle.repertoire.specs.declared.headers.Header.{Header}
use Rattle.repertoire.specs.declared.links.Link.{Link}
use Rattle.frames.specs.declared.kinds.Kind.{Kind}
use Rattle.frames.specs.declared.kinds.Kind.TheVariants as kind
use Rattle.frames.specs.declared.entries.Entry.{Entry}
use Rattle.frames.specs.declared.entries.Entry.TheVariants as entry
use Rattle.frames.specs.Frames.{entry_kind}
use Rattle.sheet.specs.Order.{may_follow, may_end}
use Rattle.sheet.specs.Sheets.{Sheet, entries_of, links_in, guides_in, header_in, limits_in, gathered}

-- the entries that may stand behind one of the last kind
abbrev pub in_order : Option Kind → List Entry → Bool
in_order last [] = may_end last
in_order last (e ∷ es) = may_follow last (entry_kind e) && in_order (Some (entry_kind e)) es

-- ---- in order, so the entries of a sheet

-- what follows the links, and what follows the header
pub record Guided (es : List Entry) : Type 0 where
  pub guides : List WeaveCost
  pub limits : WeaveCost
  pub is : es ≡ map entry.Guide guides ++ (entry.Limits limits ∷ (entry.End ∷ []))

pub record Linked (es : List Entry) : Type 0 where
  pub links : List (Link WeaveCost)
  pub guides : List WeaveCost
  pub limits : WeaveCost
  pub is : es ≡ map entry.Link links ++ (map entry.Guide guides ++ (entry.Limits limits ∷ (entry.End ∷ [])))

after_end : (es : List Entry) → in_order (Some kind.End) es ≡ true → es ≡ []
after_end [] h = refl
after_end (e ∷ es) h = cc

after_limits : (es : List Entry) → in_order (Some kind.Limits) es ≡ true → es ≡ entry.End ∷ []
after_limits [] h = cc
after_limits (entry.Header x ∷ es) h = cc
after_limits (entry.Link x ∷ es) h = cc
after_limits (entry.Guide x ∷ es) h = cc
after_limits (entry.Limits x ∷ es) h = cc
after_limits (entry.End ∷ es) h = ap (λ r. entry.End ∷ r) (after_end es h)

after_guides : (es : List Entry) → in_order (Some kind.Guide) es ≡ true → Guided es
after_guides [] h = cc
after_guides (entry.Header x ∷ es) h = cc
after_guides (entry.Link x ∷ es) h = cc
after_guides (entry.Guide x ∷ es) h = let g = after_guides es h in record { guides = x ∷ g.guides; limits = g.limits; is = ap (λ r. entry.Guide x ∷ r) g.is }
after_guides (entry.Limits x ∷ es) h = record { guides = []; limits = x; is = ap (λ r. entry.Limits x ∷ r) (after_limits es h) }
after_guides (entry.End ∷ es) h = cc

after_links : (es : List Entry) → in_order (Some kind.Link) es ≡ true → Linked es
after_links [] h = cc
after_links (entry.Header x ∷ es) h = cc
after_links (entry.Link x ∷ es) h = let g = after_links es h in record { links = x ∷ g.links; guides = g.guides; limits = g.limits; is = ap (λ r. entry.Link x ∷ r) g.is }
after_links (entry.Guide x ∷ es) h = let g = after_guides es h in record { links = []; guides = x ∷ g.guides; limits = g.limits; is = ap (λ r. entry.Guide x ∷ r) g.is }
after_links (entry.Limits x ∷ es) h = record { links = []; guides = []; limits = x; is = ap (λ r. entry.Limits x ∷ r) (after_limits es h) }
after_links (entry.End ∷ es) h = cc

-- behind the header may come what may come behind a link
header_like_link : (es : List Entry) → in_order (Some kind.Header) es ≡ in_order (Some kind.Link) es
header_like_link [] = refl
header_like_link (e ∷ es) = refl

-- ---- a sheet gathered from its entries

module _ (h : Header) (m : WeaveCost) (es : List Entry) where
  links_of_links : (ls : List (Link WeaveCost)) → links_in (map entry.Link ls ++ es) ≡ ls ++ links_in es
  links_of_links [] = refl
  links_of_links (l ∷ ls) = ap (λ r. l ∷ r) (links_of_links ls)

  guides_of_links : (ls : List (Link WeaveCost)) → guides_in (map entry.Link ls ++ es) ≡ guides_in es
  guides_of_links [] = refl
  guides_of_links (l ∷ ls) = guides_of_links ls

  header_of_links : (ls : List (Link WeaveCost)) → header_in h (map entry.Link ls ++ es) ≡ header_in h es
  header_of_links [] = refl
  header_of_links (l ∷ ls) = header_of_links ls

  limits_of_links : (ls : List (Link WeaveCost)) → limits_in m (map entry.Link ls ++ es) ≡ limits_in m es
  limits_of_links [] = refl
  limits_of_links (l ∷ ls) = limits_of_links ls

  links_of_guides : (gs : List WeaveCost) → links_in (map entry.Guide gs ++ es) ≡ links_in es
  links_of_guides [] = refl
  links_of_guides (g ∷ gs) = links_of_guides gs

  guides_of_guides : (gs : List WeaveCost) → guides_in (map entry.Guide gs ++ es) ≡ gs ++ guides_in es
  guides_of_guides [] = refl
  guides_of_guides (g ∷ gs) = ap (λ r. g ∷ r) (guides_of_guides gs)

  header_of_guides : (gs : List WeaveCost) → header_in h (map entry.Guide gs ++ es) ≡ header_in h es
  header_of_guides [] = refl
  header_of_guides (g ∷ gs) = header_of_guides gs

  limits_of_guides : (gs : List WeaveCost) → limits_in m (map entry.Guide gs ++ es) ≡ limits_in m es
  limits_of_guides [] = refl
  limits_of_guides (g ∷ gs) = limits_of_guides gs

pub gathered_back : (s : Sheet) → gathered (entries_of s) ≡ s
gathered_back s =
    let last : List Entry = entry.Limits s.limits ∷ (entry.End ∷ []) in
    let behind = map entry.Guide s.guides ++ last in
    let h = s.header in
    let m = woven 0 0 0 in
    let header = header_of_links h m behind s.links ∙ header_of_guides h m last s.guides in
    let links = links_of_links h m behind s.links ∙ ap (λ r. s.links ++ r) (links_of_guides h m last s.guides) ∙ append-nil s.links in
    let guides = guides_of_links h m behind s.links ∙ guides_of_guides h m last s.guides ∙ append-nil s.guides in
    let limits = limits_of_links h m behind s.links ∙ limits_of_guides h m last s.guides in
    λ i. record { header = header i; links = links i; guides = guides i; limits = limits i }

-- entries in order are those of the sheet gathered from them
pub arranged : (es : List Entry) → in_order None es ≡ true → entries_of (gathered es) ≡ es
arranged [] h = cc
arranged (entry.Header x ∷ es) h =
    let g = after_links es (sym (header_like_link es) ∙ h) in
    let s : Sheet = record { header = x; links = g.links; guides = g.guides; limits = g.limits } in
    let whole : entries_of s ≡ entry.Header x ∷ es = ap (λ r. entry.Header x ∷ r) (sym g.is) in
    ap (λ r. entries_of (gathered r)) (sym whole) ∙ ap entries_of (gathered_back s) ∙ whole
arranged (entry.Link x ∷ es) h = cc
arranged (entry.Guide x ∷ es) h = cc
arranged (entry.Limits x ∷ es) h = cc
arranged (entry.End ∷ es) h = cc

-- ---- the entries of a sheet are in order

order_guides : (gs : List WeaveCost) (m : WeaveCost) → in_order (Some kind.Guide) (map entry.Guide gs ++ (entry.Limits m ∷ (entry.End ∷ []))) ≡ true
order_guides [] m = refl
order_guides (g ∷ gs) m = order_guides gs m

order_links : (ls : List (Link WeaveCost)) (gs : List WeaveCost) (m : WeaveCost) → in_order (Some kind.Link) (map entry.Link ls ++ (map entry.Guide gs ++ (entry.Limits m ∷ (entry.End ∷ [])))) ≡ true
order_links [] [] m = refl
order_links [] (g ∷ gs) m = order_guides gs m
order_links (l ∷ ls) gs m = order_links ls gs m

pub entries_in_order : (s : Sheet) → in_order None (entries_of s) ≡ true
entries_in_order s =
    let rest = map entry.Link s.links ++ (map entry.Guide s.guides ++ (entry.Limits s.limits ∷ (entry.End ∷ []))) in
    header_like_link rest ∙ order_links s.links s.guides s.limits
