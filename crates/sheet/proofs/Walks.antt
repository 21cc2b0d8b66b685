-- The walk that looks at every line finds what the checks find.
use Rattle.std.proofs.Common.{◌≡◌, ℕ, ◌+◌, Bool, true, false, cond, List, [], ◌∷◌, ◌++◌, length, is_some, Some, None, Ok, Err, Option, Result, sym, refl, ap, ◌∙◌, arith}
use Rattle.std.specs.Option.{option_map, option_or, option_to_list}
use Rattle.repertoire.specs.declared.refusals.Refusal.{Refusal}
use Rattle.repertoire.specs.declared.refusals.Refusal.TheVariants.{NotAFrame, UnknownFrame, FrameOutOfOrder, TooFewRows}
use Rattle.frames.specs.declared.kinds.Kind.{Kind}
use Rattle.frames.specs.declared.kinds.Kind.TheVariants as kind
use Rattle.frames.specs.declared.entries.Entry.{Entry}
use Rattle.frames.specs.Frames.{is_frame, kind_of, body_of, entry_at}
use Rattle.frames.specs.Lines.{lines}
use Rattle.sheet.specs.declared.faults.Fault.{Fault}
use Rattle.sheet.specs.declared.surveys.Survey.{Survey}
use Rattle.sheet.specs.Order.{may_end, comes, first_not, misplaced}
use Rattle.sheet.specs.Sheets.{Sheet, entries_in, links_in, guides_in, gathered, rowless, unless, decoded}
use Rattle.sheet.specs.Steps.{noted, one_link, one_guide, begun, with, surveyed, found, fault_of, unfaulted}

-- the survey of frames that are all frames
walked : Survey → List (List ℕ) → Survey
walked v [] = v
walked v (l ∷ ls) = walked (with v (kind_of l)) ls

surveyed_is : (v : Survey) (ls : List (List ℕ)) → surveyed v ls ≡ unless (first_not v.line is_frame ls) NotAFrame (Ok (walked v ls))
unfolding walked
surveyed_is v [] = refl
surveyed_is v (l ∷ ls) = go (is_frame l) (surveyed_is (with v (kind_of l)) ls) where
  go : (x : Bool) → surveyed (with v (kind_of l)) ls ≡ unless (first_not (v.line + 1) is_frame ls) NotAFrame (Ok (walked (with v (kind_of l)) ls)) → cond x (surveyed (with v (kind_of l)) ls) (Err (record { refusal = NotAFrame; line = v.line })) ≡ unless (cond x (first_not (v.line + 1) is_frame ls) (Some v.line)) NotAFrame (Ok (walked (with v (kind_of l)) ls))
  go true e = e
  go false e = refl

-- ---- its fields

-- the first place so far, and one line more
earlier_more : (u : Option ℕ) (b : Bool) (n : ℕ) (rest : Option ℕ) → option_or u (cond b rest (Some n)) ≡ option_or (option_or u (noted b n)) rest
earlier_more None true n rest = refl
earlier_more None false n rest = refl
earlier_more (Some x) true n rest = refl
earlier_more (Some x) false n rest = refl

earlier_none : (u : Option ℕ) → option_or u None ≡ u
earlier_none None = refl
earlier_none (Some x) = refl

walked_unknown : (v : Survey) (ls : List (List ℕ)) → option_or v.unknown (first_not v.line (λ l. is_some (kind_of l)) ls) ≡ (walked v ls).unknown
unfolding walked
walked_unknown v [] = earlier_none v.unknown
walked_unknown v (l ∷ ls) = earlier_more v.unknown (is_some (kind_of l)) v.line _ ∙ walked_unknown (with v (kind_of l)) ls

walked_misplaced : (v : Survey) (ls : List (List ℕ)) → option_or v.misplaced (misplaced v.line v.last ls) ≡ option_or (walked v ls).misplaced (noted (may_end (walked v ls).last) (walked v ls).line)
unfolding walked
walked_misplaced v [] = refl
walked_misplaced v (l ∷ ls) = earlier_more v.misplaced (comes v.last (kind_of l)) v.line _ ∙ walked_misplaced (with v (kind_of l)) ls

one_link_more : (l : List ℕ) (es : List Entry) (o : Option Kind) → length (links_in (option_to_list (option_map (λ k. entry_at k (body_of l)) o) ++ es)) ≡ one_link o + length (links_in es)
one_link_more l es None = omega arith
one_link_more l es (Some kind.Header) = omega arith
one_link_more l es (Some kind.Link) = omega arith
one_link_more l es (Some kind.Guide) = omega arith
one_link_more l es (Some kind.Limits) = omega arith
one_link_more l es (Some kind.End) = omega arith

one_guide_more : (l : List ℕ) (es : List Entry) (o : Option Kind) → length (guides_in (option_to_list (option_map (λ k. entry_at k (body_of l)) o) ++ es)) ≡ one_guide o + length (guides_in es)
one_guide_more l es None = omega arith
one_guide_more l es (Some kind.Header) = omega arith
one_guide_more l es (Some kind.Link) = omega arith
one_guide_more l es (Some kind.Guide) = omega arith
one_guide_more l es (Some kind.Limits) = omega arith
one_guide_more l es (Some kind.End) = omega arith

walked_links : (v : Survey) (ls : List (List ℕ)) → (walked v ls).links ≡ v.links + length (links_in (entries_in ls))
unfolding walked
walked_links v [] = omega arith
walked_links v (l ∷ ls) = omega (arith, walked_links (with v (kind_of l)) ls, one_link_more l (entries_in ls) (kind_of l))

walked_guides : (v : Survey) (ls : List (List ℕ)) → (walked v ls).guides ≡ v.guides + length (guides_in (entries_in ls))
unfolding walked
walked_guides v [] = omega arith
walked_guides v (l ∷ ls) = omega (arith, walked_guides (with v (kind_of l)) ls, one_guide_more l (entries_in ls) (kind_of l))

-- ---- what the sheet says, by the survey

unfaulted_found : {A : Type 0} (o : Option ℕ) (why : Refusal) (other : Option Fault) (r : Result A Fault) → unfaulted (found o why other) r ≡ unless o why (unfaulted other r)
unfaulted_found None why other r = refl
unfaulted_found (Some n) why other r = refl

-- a check alone decides
pub faulted : {A B : Type 0} (o : Option Fault) (b : B) (r : Result A Fault) {f : Fault} → unfaulted o (Ok b) ≡ Err f → unfaulted o r ≡ Err f
faulted None b r e = cc
faulted (Some x) b r e = cc

pub faultless : {A B : Type 0} (o : Option Fault) (b : B) (r : Result A Fault) {x : B} → unfaulted o (Ok b) ≡ Ok x → unfaulted o r ≡ r
faultless None b r e = refl
faultless (Some f) b r e = cc

module _ (link_rows guide_rows : ℕ) (s : List ℕ) where
  decoded_walked : decoded link_rows guide_rows s ≡ unless (first_not 1 is_frame (lines s)) NotAFrame (unfaulted (fault_of link_rows guide_rows (walked begun (lines s))) (Ok (gathered (entries_in (lines s)))))
  decoded_walked =
      let first = first_not 1 is_frame (lines s) in
      let w = walked begun (lines s) in
      let r : Result Sheet Fault = Ok (gathered (entries_in (lines s))) in
      let ending = option_or w.misplaced (noted (may_end w.last) w.line) in
      let unknown = walked_unknown begun (lines s) in
      let order = walked_misplaced begun (lines s) in
      let links : length (links_in (entries_in (lines s))) ≡ w.links = omega (arith, walked_links begun (lines s)) in
      let guides : length (guides_in (entries_in (lines s))) ≡ w.guides = omega (arith, walked_guides begun (lines s)) in
      let step : unfaulted (fault_of link_rows guide_rows w) r ≡ unless w.unknown UnknownFrame (unless ending FrameOutOfOrder (unless (rowless link_rows guide_rows w.links w.guides) TooFewRows r)) =
      unfaulted_found w.unknown UnknownFrame _ r
      ∙ ap (unless w.unknown UnknownFrame) (unfaulted_found ending FrameOutOfOrder _ r ∙ ap (unless ending FrameOutOfOrder) (unfaulted_found (rowless link_rows guide_rows w.links w.guides) TooFewRows None r)) in
      (λ i. unless first NotAFrame (unless (unknown i) UnknownFrame (unless (order i) FrameOutOfOrder (unless (rowless link_rows guide_rows (links i) (guides i)) TooFewRows r)))) ∙ ap (unless first NotAFrame) (sym step)

  -- a line that is no frame decides
  pub unframed_decides : (f : Fault) → surveyed begun (lines s) ≡ Err f → decoded link_rows guide_rows s ≡ Err f
  unframed_decides f h = decoded_walked ∙ go (first_not 1 is_frame (lines s)) (sym (surveyed_is begun (lines s)) ∙ h) where
    go : (o : Option ℕ) → unless o NotAFrame (Ok (walked begun (lines s))) ≡ Err f → unless o NotAFrame (unfaulted (fault_of link_rows guide_rows (walked begun (lines s))) (Ok (gathered (entries_in (lines s))))) ≡ Err f
    go None e = cc
    go (Some n) e = let same : record { refusal = NotAFrame; line = n } ≡ f = cc in ap Err same

  -- else what the survey finds decides
  pub survey_decides : (v : Survey) → surveyed begun (lines s) ≡ Ok v → (first_not 1 is_frame (lines s) ≡ None) × (decoded link_rows guide_rows s ≡ unfaulted (fault_of link_rows guide_rows v) (Ok (gathered (entries_in (lines s)))))
  survey_decides v h =
      let both = go (first_not 1 is_frame (lines s)) (sym (surveyed_is begun (lines s)) ∙ h) in
      (both.0, decoded_walked ∙ both.1)
    where
      go : (o : Option ℕ) → unless o NotAFrame (Ok (walked begun (lines s))) ≡ Ok v → (o ≡ None) × (unless o NotAFrame (unfaulted (fault_of link_rows guide_rows (walked begun (lines s))) (Ok (gathered (entries_in (lines s))))) ≡ unfaulted (fault_of link_rows guide_rows v) (Ok (gathered (entries_in (lines s)))))
      go None e = let same : walked begun (lines s) ≡ v = cc in (refl, ap (λ w. unfaulted (fault_of link_rows guide_rows w) (Ok (gathered (entries_in (lines s))))) same)
      go (Some n) e = cc
