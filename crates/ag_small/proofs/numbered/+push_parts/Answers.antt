use Rattle.std.proofs.Common.{arith, ◌≡◌, ◌+◌, ◌++◌, ◌∷◌, [], ℕ, length, List, ap, subst, ◌∙◌, append_assoc}
use Rattle.std.proofs.lemmas.List.{length-append}
use Rattle.std.specs.Prelude.{IfOk, OnOk}
use Rattle.ag_stream.specs.declared.problem.Part.{Part}
use Rattle.ag_stream.specs.declared.problem.Part.TheVariants as parts
use Rattle.ag_small.proofs.Numbering.{longer_by, put_two}
use Rattle.ag_small.specs.Nodes.{expression_of}
use Rattle.ag_small.specs.Numbered.{part_count, own_part}
use Rattle.ag_small.proofs.numbered.+push_parts.Goals as goal

pub returns-in_ok-own-in-Not-clause-own : goal.returns-in_ok-own-in-Not-clause-own
returns-in_ok-own-in-Not-clause-own t c =
    let one = rw c.deref-in-Not.ensures at c.in_ok-own-in-Not.ensures.parts in
    let long = longer_by c.args.ports.now c.args.parts.now c.push_parts-in-Not.new.parts (expression_of c.in-Not.f.value) one in
    rw c.in-Not.is (subst (λ (m : ℕ). IfOk c.push_part-in-Not.result (λ n. n ≡ m)) (omega (arith, long)) c.push_part-in-Not.ensures.own)

pub returns-in_ok-right-in-And-clause-parts : goal.returns-in_ok-right-in-And-clause-parts
returns-in_ok-right-in-And-clause-parts t c =
    let f = expression_of c.in-And.f.value in
    let g = expression_of c.in-And.g.value in
    let few = rw c.in-And.is at c.requires.few in
    let one = rw c.deref-in-And.ensures at c.in_ok-left-in-And.ensures.parts in
    let long = longer_by c.args.ports.now c.args.parts.now c.push_parts-in-And.new.parts f one in
    let both = rw c.deref-in-And-2.ensures at c.in_ok-right-in-And.ensures.parts in
    let longer = longer_by c.args.ports.now c.push_parts-in-And.new.parts c.push_parts-in-And-2.new.parts g both in
    let first : c.in_ok-left-in-And.left ≡ own_part (length c.args.parts.now) f = rw c.deref-in-And.ensures at c.in_ok-left-in-And.ensures.own in
    let second : c.in_ok-right-in-And.right ≡ own_part (length c.args.parts.now + part_count f) g = (rw c.deref-in-And-2.ensures at c.in_ok-right-in-And.ensures.own) ∙ ap (λ (n : ℕ). own_part n g) long in
    rw c.in-And.is (subst (λ (ps : List Part). OnOk c.push_part-in-And.result (c.push_part-in-And.new.parts ≡ ps))
    (ap (λ (q : Part). c.push_parts-in-And-2.new.parts ++ q ∷ []) (λ j. parts.And (first j) (second j))
    ∙ put_two c.args.ports.now c.args.parts.now c.push_parts-in-And.new.parts c.push_parts-in-And-2.new.parts f g (parts.And (own_part (length c.args.parts.now) f) (own_part (length c.args.parts.now + part_count f) g) ∷ []) one both)
    c.push_part-in-And.ensures.parts)

pub returns-in_ok-right-in-And-clause-own : goal.returns-in_ok-right-in-And-clause-own
returns-in_ok-right-in-And-clause-own t c =
    let f = expression_of c.in-And.f.value in
    let g = expression_of c.in-And.g.value in
    let few = rw c.in-And.is at c.requires.few in
    let one = rw c.deref-in-And.ensures at c.in_ok-left-in-And.ensures.parts in
    let long = longer_by c.args.ports.now c.args.parts.now c.push_parts-in-And.new.parts f one in
    let both = rw c.deref-in-And-2.ensures at c.in_ok-right-in-And.ensures.parts in
    let longer = longer_by c.args.ports.now c.push_parts-in-And.new.parts c.push_parts-in-And-2.new.parts g both in
    rw c.in-And.is (subst (λ (m : ℕ). IfOk c.push_part-in-And.result (λ n. n ≡ m)) (omega (arith, long, longer)) c.push_part-in-And.ensures.own)

pub returns-in_ok-right-in-Or-clause-parts : goal.returns-in_ok-right-in-Or-clause-parts
returns-in_ok-right-in-Or-clause-parts t c =
    let f = expression_of c.in-Or.f.value in
    let g = expression_of c.in-Or.g.value in
    let few = rw c.in-Or.is at c.requires.few in
    let one = rw c.deref-in-Or.ensures at c.in_ok-left-in-Or.ensures.parts in
    let long = longer_by c.args.ports.now c.args.parts.now c.push_parts-in-Or.new.parts f one in
    let both = rw c.deref-in-Or-2.ensures at c.in_ok-right-in-Or.ensures.parts in
    let longer = longer_by c.args.ports.now c.push_parts-in-Or.new.parts c.push_parts-in-Or-2.new.parts g both in
    let first : c.in_ok-left-in-Or.left ≡ own_part (length c.args.parts.now) f = rw c.deref-in-Or.ensures at c.in_ok-left-in-Or.ensures.own in
    let second : c.in_ok-right-in-Or.right ≡ own_part (length c.args.parts.now + part_count f) g = (rw c.deref-in-Or-2.ensures at c.in_ok-right-in-Or.ensures.own) ∙ ap (λ (n : ℕ). own_part n g) long in
    rw c.in-Or.is (subst (λ (ps : List Part). OnOk c.push_part-in-Or.result (c.push_part-in-Or.new.parts ≡ ps))
    (ap (λ (q : Part). c.push_parts-in-Or-2.new.parts ++ q ∷ []) (λ j. parts.Or (first j) (second j))
    ∙ put_two c.args.ports.now c.args.parts.now c.push_parts-in-Or.new.parts c.push_parts-in-Or-2.new.parts f g (parts.Or (own_part (length c.args.parts.now) f) (own_part (length c.args.parts.now + part_count f) g) ∷ []) one both)
    c.push_part-in-Or.ensures.parts)

pub returns-in_ok-right-in-Or-clause-own : goal.returns-in_ok-right-in-Or-clause-own
returns-in_ok-right-in-Or-clause-own t c =
    let f = expression_of c.in-Or.f.value in
    let g = expression_of c.in-Or.g.value in
    let few = rw c.in-Or.is at c.requires.few in
    let one = rw c.deref-in-Or.ensures at c.in_ok-left-in-Or.ensures.parts in
    let long = longer_by c.args.ports.now c.args.parts.now c.push_parts-in-Or.new.parts f one in
    let both = rw c.deref-in-Or-2.ensures at c.in_ok-right-in-Or.ensures.parts in
    let longer = longer_by c.args.ports.now c.push_parts-in-Or.new.parts c.push_parts-in-Or-2.new.parts g both in
    rw c.in-Or.is (subst (λ (m : ℕ). IfOk c.push_part-in-Or.result (λ n. n ≡ m)) (omega (arith, long, longer)) c.push_part-in-Or.ensures.own)

pub returns-in_ok-not_left-in-Implies-clause-parts : goal.returns-in_ok-not_left-in-Implies-clause-parts
returns-in_ok-not_left-in-Implies-clause-parts t c =
    let f = expression_of c.in-Implies.f.value in
    let g = expression_of c.in-Implies.g.value in
    let few = rw c.in-Implies.is at c.requires.few in
    let one = rw c.deref-in-Implies.ensures at c.in_ok-left-in-Implies.ensures.parts in
    let long = longer_by c.args.ports.now c.args.parts.now c.push_parts-in-Implies.new.parts f one in
    let both = rw c.deref-in-Implies-2.ensures at c.in_ok-right-in-Implies.ensures.parts in
    let longer = longer_by c.args.ports.now c.push_parts-in-Implies.new.parts c.push_parts-in-Implies-2.new.parts g both in
    let first : c.in_ok-left-in-Implies.left ≡ own_part (length c.args.parts.now) f = rw c.deref-in-Implies.ensures at c.in_ok-left-in-Implies.ensures.own in
    let second : c.in_ok-right-in-Implies.right ≡ own_part (length c.args.parts.now + part_count f) g = (rw c.deref-in-Implies-2.ensures at c.in_ok-right-in-Implies.ensures.own) ∙ ap (λ (n : ℕ). own_part n g) long in
    let third : c.in_ok-not_left-in-Implies.not_left ≡ length c.args.parts.now + part_count f + part_count g = c.in_ok-not_left-in-Implies.ensures.own ∙ omega (arith, long, longer) in
    let last = parts.Or c.in_ok-not_left-in-Implies.not_left c.in_ok-right-in-Implies.right in
    rw c.in-Implies.is (subst (λ (ps : List Part). OnOk c.push_part-in-Implies-2.result (c.push_part-in-Implies-2.new.parts ≡ ps))
    (ap (λ (ps : List Part). ps ++ last ∷ []) c.in_ok-not_left-in-Implies.ensures.parts
    ∙ append_assoc c.push_parts-in-Implies-2.new.parts (parts.Not c.in_ok-left-in-Implies.left ∷ []) (last ∷ [])
    ∙ ap (λ (ps : List Part). c.push_parts-in-Implies-2.new.parts ++ ps) (λ j. parts.Not (first j) ∷ parts.Or (third j) (second j) ∷ [])
    ∙ put_two c.args.ports.now c.args.parts.now c.push_parts-in-Implies.new.parts c.push_parts-in-Implies-2.new.parts f g
    (parts.Not (own_part (length c.args.parts.now) f) ∷ parts.Or (length c.args.parts.now + part_count f + part_count g) (own_part (length c.args.parts.now + part_count f) g) ∷ []) one both)
    c.push_part-in-Implies-2.ensures.parts)

pub returns-in_ok-not_left-in-Implies-clause-own : goal.returns-in_ok-not_left-in-Implies-clause-own
returns-in_ok-not_left-in-Implies-clause-own t c =
    let f = expression_of c.in-Implies.f.value in
    let g = expression_of c.in-Implies.g.value in
    let few = rw c.in-Implies.is at c.requires.few in
    let one = rw c.deref-in-Implies.ensures at c.in_ok-left-in-Implies.ensures.parts in
    let long = longer_by c.args.ports.now c.args.parts.now c.push_parts-in-Implies.new.parts f one in
    let both = rw c.deref-in-Implies-2.ensures at c.in_ok-right-in-Implies.ensures.parts in
    let longer = longer_by c.args.ports.now c.push_parts-in-Implies.new.parts c.push_parts-in-Implies-2.new.parts g both in
    let third = ap length c.in_ok-not_left-in-Implies.ensures.parts in
    rw c.in-Implies.is (subst (λ (m : ℕ). IfOk c.push_part-in-Implies-2.result (λ n. n ≡ m))
    (omega (arith, long, longer, third, length-append c.push_parts-in-Implies-2.new.parts (parts.Not c.in_ok-left-in-Implies.left ∷ []))) c.push_part-in-Implies-2.ensures.own)
