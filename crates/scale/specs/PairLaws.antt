-- A pair of two lawful scales is lawful.
use Rattle.std.proofs.lemmas.Bool.{and_parts, and_from}
use Rattle.scale.specs.declared.scales.Scale.{Ghosts}
use Rattle.scale.specs.Laws.{Laws}
use Rattle.scale.specs.Pairs.{both_neutral, both_joined, both_no_worse, both_liked}
use Rattle.scale.specs.Lexical.{lex_total, second_decides, second_decided}

module _ {A B : Type 0} (a : Ghosts A) (b : Ghosts B) (la : Laws a.neutral a.joined a.no_worse a.liked) (lb : Laws b.neutral b.joined b.no_worse b.liked) where
  pub pair_fair : Laws (both_neutral a b) (both_joined a b) (both_no_worse a b) (both_liked a b)
  pair_fair = record {
    assoc = λ x y z. λ i. record { first = la.assoc x.first y.first z.first i; second = lb.assoc x.second y.second z.second i };
    left = λ x. λ i. record { first = la.left x.first i; second = lb.left x.second i };
    right = λ x. λ i. record { first = la.right x.first i; second = lb.right x.second i };
    reflexive = λ x. and_from _ _ (la.reflexive x.first) (lb.reflexive x.second);
    transitive = λ x y z h k.
        let p = and_parts _ _ h in
        let q = and_parts _ _ k in
        and_from _ _ (la.transitive _ _ _ p.0 q.0) (lb.transitive _ _ _ p.1 q.1);
    least = λ x. and_from _ _ (la.least x.first) (lb.least x.second);
    before = λ x y z h. let p = and_parts _ _ h in and_from _ _ (la.before _ _ z.first p.0) (lb.before _ _ z.second p.1);
    behind = λ x y z h. let p = and_parts _ _ h in and_from _ _ (la.behind _ _ z.first p.0) (lb.behind _ _ z.second p.1);
    total = λ x y. lex_total _ _ _ _ (la.total x.first y.first) (lb.total x.second y.second);
    carries = λ x y z h k.
        let p = and_parts _ _ h in
        let q = and_parts _ _ k in
        and_from _ _ (la.carries _ _ _ p.0 q.0)
        (second_decides _ _ (λ level.
        lb.carries _ _ _
        (second_decided (a.liked y.first x.first) _ p.1 (la.carries _ _ _ q.0 level))
        (second_decided (a.liked z.first y.first) _ q.1 (la.carries _ _ _ level p.0))));
    agrees = λ x y h.
        let p = and_parts _ _ h in
        and_from _ _ (la.agrees _ _ p.0) (second_decides _ _ (λ _. lb.agrees _ _ p.1));
  }
