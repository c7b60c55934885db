-- Steps that are taken back.
use Rattle.std.proofs.Common.{◌≡◌, ◌++◌, ◌∷◌, ℕ, Bool, true, false, not, List, [], Option, Some, None, refl, sym, ap, ◌∙◌, All, IsSome}
use Rattle.std.specs.Option.{is_some}
use Rattle.std.proofs.lemmas.Bool.{false≢true}
use Rattle.std.proofs.lemmas.List.{append_assoc}
use Rattle.std.proofs.lemmas.List.Elements.{All-push, All-head, All-tail}
use Rattle.ag_tree.specs.declared.trail.Step.{Step}
use Rattle.ag_tree.specs.Trail.{Seen, denial, IsBackTo}

-- the steps that were taken back were drawn
pub record IsTakenBack (before now : Seen) : Type 0 where
  pub atoms : now.atoms ≡ before.atoms
  pub drawn : List Step
  pub is : before.steps ≡ drawn ++ now.steps
  pub none_chosen : All (λ s. IsSome s.reason) drawn

denial_step : (s : Step) (rest : List Step) (r : Option ℕ) → s.reason ≡ r → IsSome r → denial (s ∷ rest) ≡ denial rest
denial_step s rest None e some = absurd (false≢true some)
denial_step s rest (Some n) e some = rw e refl

-- steps that were drawn deny nothing
pub denial_drawn : (drawn rest : List Step) → All (λ s. IsSome s.reason) drawn → denial (drawn ++ rest) ≡ denial rest
denial_drawn [] rest all = refl
denial_drawn (s ∷ drawn) rest all =
    let P : Step → Type 0 = λ x. IsSome x.reason in
    denial_step s (drawn ++ rest) s.reason refl (All-head P s drawn all) ∙ denial_drawn drawn rest (All-tail P s drawn all)

pub back_more : (before now new : Seen) (s : Step) → IsTakenBack before now → now.steps ≡ s ∷ new.steps → new.atoms ≡ now.atoms → IsSome s.reason → IsTakenBack before new
back_more before now new s so is atoms some = record {
  atoms = atoms ∙ so.atoms;
  drawn = so.drawn ++ s ∷ [];
  is = so.is ∙ ap (λ (xs : List Step). so.drawn ++ xs) is ∙ sym (append_assoc so.drawn (s ∷ []) new.steps);
  none_chosen = All-push (λ x. IsSome x.reason) so.drawn s so.none_chosen some;
}

pub back_here : (before now new : Seen) (s : Step) → IsTakenBack before now → now.steps ≡ s ∷ new.steps → s.reason ≡ None → IsBackTo before.steps new.steps s.lit
back_here before now new s so is none = record {
  drawn = so.drawn;
  is = so.is ∙ ap (λ (xs : List Step). so.drawn ++ xs) (is ∙ ap (λ (r : Option ℕ). record { lit = s.lit; reason = r } ∷ new.steps) none);
  none_chosen = so.none_chosen;
}

pub back_all : (before now : Seen) → IsTakenBack before now → now.steps ≡ [] → denial before.steps ≡ []
back_all before now so none = ap denial so.is ∙ denial_drawn so.drawn now.steps so.none_chosen ∙ ap denial none

pub none_from : (r : Option ℕ) (b : Bool) → is_some r ≡ not b → b ≡ true → r ≡ None
none_from None b e t = refl
none_from (Some n) b e t = cc

pub some_from : (r : Option ℕ) (b : Bool) → is_some r ≡ not b → b ≡ false → IsSome r
some_from None true e f = cc
some_from None false e f = cc
some_from (Some n) b e f = refl
