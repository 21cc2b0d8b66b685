-- The walk that fills the rows puts the links and the guides of a sheet at their fronts.
use Rattle.std.proofs.Common.{◌≡◌, ℕ, suc, ◌+◌, ◌≤◌, Bool, true, false, cond, List, [], ◌∷◌, ◌++◌, length, take, drop, set, Some, None, Err, fold, Option, sym, refl, ap, ◌∙◌, arith}
use Rattle.std.proofs.lemmas.List.{append_assoc, length-set, take_more_set, drop-set-lt, take-append-drop}
use Rattle.std.specs.Option.{ok_or, option_to_list}
use Rattle.scale.specs.Weave.{WeaveCost}
use Rattle.repertoire.specs.declared.links.Link.{Link}
use Rattle.repertoire.specs.declared.refusals.Refusal.TheVariants.{NotAFrame, UnknownFrame}
use Rattle.frames.specs.declared.entries.Entry.{Entry}
use Rattle.frames.specs.declared.entries.Entry.TheVariants as entry
use Rattle.frames.specs.Frames.{is_frame, entry_of}
use Rattle.sheet.specs.Order.{first_not}
use Rattle.sheet.specs.Sheets.{entries_in, links_in, guides_in, header_in, limits_in, gathered, onto, contents_of}
use Rattle.sheet.specs.Steps.{Filling, filling, empty, stored, stored_read, filled}

-- ---- the lines are the entries

filled_entries : (f : Filling) (n : ℕ) (ls : List (List ℕ)) → first_not n is_frame ls ≡ None → filled f ls ≡ fold stored f (entries_in ls)
filled_entries f n [] h = refl
filled_entries f n (l ∷ ls) h = go (is_frame l) (entry_of l) h (λ g. filled_entries g (n + 1) ls) where
  go : (x : Bool) (o : Option Entry) → cond x (first_not (n + 1) is_frame ls) (Some n) ≡ None → ((g : Filling) → first_not (n + 1) is_frame ls ≡ None → filled g ls ≡ fold stored g (entries_in ls))
      → filled (stored_read f (cond x (ok_or o UnknownFrame) (Err NotAFrame))) ls ≡ fold stored f (option_to_list o ++ entries_in ls)
  go true None e rest = rest f e
  go true (Some x) e rest = rest (stored f x) e
  go false o e rest = cc

-- ---- one row more

-- xs behind the first n rows
abbrev pub placed : {A : Type 0} → ℕ → List A → List A → List A
placed n rows xs = take n rows ++ (xs ++ drop (n + length xs) rows)

placed_none : {A : Type 0} (n : ℕ) (rows : List A) → rows ≡ placed n rows []
placed_none n rows = let e : n ≡ n + 0 = omega arith in sym (take-append-drop n rows) ∙ ap (λ k. take n rows ++ drop k rows) e

placed_more : {A : Type 0} (n : ℕ) (rows xs : List A) (x : A) → n + suc (length xs) ≤ length rows → placed (n + 1) (set rows n x) xs ≡ placed n rows (x ∷ xs)
placed_more n rows xs x h =
    let end : n + 1 + length xs ≡ n + suc (length xs) = omega arith in
    ap (λ f. f ++ (xs ++ drop (n + 1 + length xs) (set rows n x))) (take_more_set rows n x (omega arith))
    ∙ ap (λ b. (take n rows ++ (x ∷ [])) ++ (xs ++ b)) (drop-set-lt (n + 1 + length xs) rows n x (omega arith) ∙ ap (λ k. drop k rows) end)
    ∙ append_assoc (take n rows) (x ∷ []) (xs ++ drop (n + suc (length xs)) rows)

-- ---- all entries

folded_header : (f : Filling) (es : List Entry) → (fold stored f es).contents.header ≡ header_in f.contents.header es
folded_header f [] = refl
folded_header f (entry.Header h ∷ es) = folded_header (stored f (entry.Header h)) es
folded_header f (entry.Link l ∷ es) = folded_header (stored f (entry.Link l)) es
folded_header f (entry.Guide c ∷ es) = folded_header (stored f (entry.Guide c)) es
folded_header f (entry.Limits c ∷ es) = folded_header (stored f (entry.Limits c)) es
folded_header f (entry.End ∷ es) = folded_header f es

folded_limits : (f : Filling) (es : List Entry) → (fold stored f es).contents.limits ≡ limits_in f.contents.limits es
folded_limits f [] = refl
folded_limits f (entry.Header h ∷ es) = folded_limits (stored f (entry.Header h)) es
folded_limits f (entry.Link l ∷ es) = folded_limits (stored f (entry.Link l)) es
folded_limits f (entry.Guide c ∷ es) = folded_limits (stored f (entry.Guide c)) es
folded_limits f (entry.Limits c ∷ es) = folded_limits (stored f (entry.Limits c)) es
folded_limits f (entry.End ∷ es) = folded_limits f es

-- the number of links, and their rows
folded_links : (f : Filling) (es : List Entry) → f.contents.links + length (links_in es) ≤ length f.links → ((fold stored f es).contents.links ≡ f.contents.links + length (links_in es)) × ((fold stored f es).links ≡ placed f.contents.links f.links (links_in es))
folded_links f [] h = (omega arith, placed_none f.contents.links f.links)
folded_links f (entry.Header x ∷ es) h = folded_links (stored f (entry.Header x)) es h
folded_links f (entry.Link l ∷ es) h =
    let n = f.contents.links in
    let rest = folded_links (stored f (entry.Link l)) es (omega (arith, length-set f.links n l)) in
    (omega (arith, rest.0), rest.1 ∙ placed_more n f.links (links_in es) l h)
folded_links f (entry.Guide c ∷ es) h = folded_links (stored f (entry.Guide c)) es h
folded_links f (entry.Limits c ∷ es) h = folded_links (stored f (entry.Limits c)) es h
folded_links f (entry.End ∷ es) h = folded_links f es h

-- the number of guides, and their rows
folded_guides : (f : Filling) (es : List Entry) → f.contents.guides + length (guides_in es) ≤ length f.guides → ((fold stored f es).contents.guides ≡ f.contents.guides + length (guides_in es)) × ((fold stored f es).guides ≡ placed f.contents.guides f.guides (guides_in es))
folded_guides f [] h = (omega arith, placed_none f.contents.guides f.guides)
folded_guides f (entry.Header x ∷ es) h = folded_guides (stored f (entry.Header x)) es h
folded_guides f (entry.Link l ∷ es) h = folded_guides (stored f (entry.Link l)) es h
folded_guides f (entry.Guide c ∷ es) h =
    let n = f.contents.guides in
    let rest = folded_guides (stored f (entry.Guide c)) es (omega (arith, length-set f.guides n c)) in
    (omega (arith, rest.0), rest.1 ∙ placed_more n f.guides (guides_in es) c h)
folded_guides f (entry.Limits c ∷ es) h = folded_guides (stored f (entry.Limits c)) es h
folded_guides f (entry.End ∷ es) h = folded_guides f es h

-- ---- the whole sheet

placed_front : {A : Type 0} (rows xs : List A) → placed 0 rows xs ≡ onto xs rows
placed_front rows xs = let e : 0 + length xs ≡ length xs = omega arith in ap (λ k. xs ++ drop k rows) e

module _ (links : List (Link WeaveCost)) (guides : List WeaveCost) (ls : List (List ℕ)) where
  pub filled_sheet : first_not 1 is_frame ls ≡ None → length (links_in (entries_in ls)) ≤ length links → length (guides_in (entries_in ls)) ≤ length guides
      → filled (filling empty links guides) ls ≡ filling (contents_of (gathered (entries_in ls))) (onto (links_in (entries_in ls)) links) (onto (guides_in (entries_in ls)) guides)
  filled_sheet framed room place =
      let f = filling empty links guides in
      let es = entries_in ls in
      let header = folded_header f es in
      let limits = folded_limits f es in
      let some = folded_links f es (omega arith) in
      let many = folded_guides f es (omega arith) in
      let link_count : (fold stored f es).contents.links ≡ length (links_in es) = omega (arith, some.0) in
      let guide_count : (fold stored f es).contents.guides ≡ length (guides_in es) = omega (arith, many.0) in
      let link_rows = some.1 ∙ placed_front links (links_in es) in
      let guide_rows = many.1 ∙ placed_front guides (guides_in es) in
      filled_entries f 1 ls framed
      ∙ (λ i. record { contents = record { header = header i; limits = limits i; links = link_count i; guides = guide_count i }; links = link_rows i; guides = guide_rows i })
