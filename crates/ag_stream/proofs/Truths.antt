-- Each part's truth is what the part says of its operands' truths, and depends on the streams that it names alone.
use Rattle.std.proofs.Common.{◌≡◌, ℕ, ◌+◌, ◌<◌, ◌≤◌, zero, suc, Bool, true, false, not, ◌&&◌, ◌||◌, List, [], ◌∷◌, ◌++◌, length, get_or, Some, sym, refl, ap, subst, ◌∙◌, arith, All, zero-add, ℤ, pos, ◌+ℤ◌, SFits, w64, to_z, of_z, negsuc, ◌^◌, if◌then◌else◌}
use Rattle.std.specs.List.{slice_get}
use Rattle.std.proofs.lemmas.List.{get_or_append_left, get_or_push, length_push, ext_get_or}
use Rattle.std.proofs.lemmas.List.Elements.{All-head, All-tail, Contains-get_or}
use Rattle.std.proofs.lemmas.Option.{none-some, same_Some, slice_get_within, slice_get-get_or}
use Rattle.std.proofs.lemmas.Bool.{true≢false}
use Rattle.std.proofs.lemmas.Int.{ints, to_z-of_z}
use Rattle.std.specs.Int.Signed.{le_z}
use mathlib.Core.Bool.{beq}
use Rattle.ag_stream.specs.Runs.{magnitude}
use Rattle.ag_stream.specs.declared.problem.Row.{Row}
use Rattle.ag_stream.specs.declared.problem.Part.{Part}
use Rattle.ag_stream.specs.declared.problem.Part.TheVariants as parts
use Rattle.ag_stream.specs.declared.problem.ProblemDraft.{ProblemDraft}
use Rattle.ag_stream.specs.Values.{Moment, side, flag_at, terms_value, is_at_most_zero, truth_of, truths_after, truths, holds, AreTruths}
use Rattle.ag_stream.specs.Forms.{operands, IsPlainPart, IsPartOf, IsRow, IsWellFormed}
use Rattle.ag_stream.specs.Dependence.{Names, PartNames, itself, operand}
use Rattle.ag_stream.specs.Work.{IsPlainForm, IsPartAt, AreBefore, alone, holds_in}

-- two lists agree at each number of a list
abbrev pub AgreeAt : List Bool → List Bool → List ℕ → Type 0
AgreeAt xs ys ns = All (λ a. get_or xs a false ≡ get_or ys a false) ns

first_of : (xs ys : List Bool) (a : ℕ) (ns : List ℕ) → AgreeAt xs ys (a ∷ ns) → get_or xs a false ≡ get_or ys a false
first_of xs ys a ns h = All-head (λ k. get_or xs k false ≡ get_or ys k false) a ns h

rest_of : (xs ys : List Bool) (a : ℕ) (ns : List ℕ) → AgreeAt xs ys (a ∷ ns) → AgreeAt xs ys ns
rest_of xs ys a ns h = All-tail (λ k. get_or xs k false ≡ get_or ys k false) a ns h

second_of : (xs ys : List Bool) (a b : ℕ) (ns : List ℕ) → AgreeAt xs ys (a ∷ b ∷ ns) → get_or xs b false ≡ get_or ys b false
second_of xs ys a b ns h = first_of xs ys b ns (rest_of xs ys a (b ∷ ns) h)

third_of : (xs ys : List Bool) (a b c : ℕ) (ns : List ℕ) → AgreeAt xs ys (a ∷ b ∷ c ∷ ns) → get_or xs c false ≡ get_or ys c false
third_of xs ys a b c ns h = second_of xs ys b c ns (rest_of xs ys a (b ∷ c ∷ ns) h)

-- a part says the same of two lists that agree at its operands
pub truth_of-same : (m : Moment) (xs ys : List Bool) (p : Part) → AgreeAt xs ys (operands p) → truth_of m xs p ≡ truth_of m ys p
truth_of-same m xs ys (parts.Truth b) h = refl
truth_of-same m xs ys (parts.Flag s b) h = refl
truth_of-same m xs ys (parts.Compare r) h = refl
truth_of-same m xs ys (parts.Not a) h = ap not (first_of xs ys a [] h)
truth_of-same m xs ys (parts.And a b) h = let e = first_of xs ys a (b ∷ []) h in let f = second_of xs ys a b [] h in rw (e, f)
truth_of-same m xs ys (parts.Or a b) h = let e = first_of xs ys a (b ∷ []) h in let f = second_of xs ys a b [] h in rw (e, f)
truth_of-same m xs ys (parts.Same a b) h = let e = first_of xs ys a (b ∷ []) h in let f = second_of xs ys a b [] h in rw (e, f)
truth_of-same m xs ys (parts.Choice c a b) h = let e = first_of xs ys c (a ∷ b ∷ []) h in let f = second_of xs ys c a (b ∷ []) h in let g = third_of xs ys c a b [] h in rw (e, f, g)
truth_of-same m xs ys (parts.Arrow a b) h = let e = first_of xs ys a (b ∷ []) h in let f = second_of xs ys a b [] h in rw (e, f)

-- the truths that are known stay
pub prefix_stays : (m : Moment) (known : List Bool) (ps : List Part) (i : ℕ) → i < length known → get_or (truths_after m known ps) i false ≡ get_or known i false
prefix_stays m known [] i lt = refl
prefix_stays m known (p ∷ ps) i lt =
    prefix_stays m (known ++ truth_of m known p ∷ []) ps i (rw (length_push known (truth_of m known p)) (omega (arith, lt)))
    ∙ get_or_append_left known (truth_of m known p ∷ []) false i lt

said_first : (m : Moment) (known : List Bool) (q : Part) (ps : List Part) (i : ℕ) → i ≡ length known → All (λ a. a < i) (operands q) → get_or (truths_after m known (q ∷ ps)) i false ≡ truth_of m (truths_after m known (q ∷ ps)) q
said_first m known q ps i is before =
    let v : Bool = truth_of m known q in
    prefix_stays m (known ++ v ∷ []) ps i (rw (length_push known v) (omega (arith, is)))
    ∙ get_or_push known v false i (sym is)
    ∙ truth_of-same m known (truths_after m known (q ∷ ps)) q
    (λ k d lt. sym (prefix_stays m known (q ∷ ps) (get_or (operands q) k d) (omega (arith, is, before k d lt))))

pub said_after : (m : Moment) (known : List Bool) (ps : List Part) (n i : ℕ) (p : Part) → i ≡ length known + n → slice_get ps n ≡ Some p → All (λ a. a < i) (operands p) → get_or (truths_after m known ps) i false ≡ truth_of m (truths_after m known ps) p
said_after m known [] n i p is e before = absurd (none-some p e)
said_after m known (q ∷ ps) zero i p is e before =
    let P : Part → Type 0 = λ x. All (λ a. a < i) (operands x) → get_or (truths_after m known (q ∷ ps)) i false ≡ truth_of m (truths_after m known (q ∷ ps)) x in
    subst P (same_Some q p e) (said_first m known q ps i (omega (arith, is))) before
said_after m known (q ∷ ps) (suc n) i p is e before =
    said_after m (known ++ truth_of m known q ∷ []) ps n i p (rw (length_push known (truth_of m known q)) (omega (arith, is))) e before

-- each part's truth is what the part says of the truths of its operands
pub holds_said : (m : Moment) (ps : List Part) (n : ℕ) (p : Part) → slice_get ps n ≡ Some p → All (λ a. a < n) (operands p) → holds m ps n ≡ truth_of m (truths m ps) p
holds_said m ps n p e before = said_after m [] ps n n p (sym (zero-add n)) e before

-- a plain part says the same at two moments whose flags agree where it names them
pub truth_of_plain : (ints : ℕ) (m o : Moment) (xs ys : List Bool) (p : Part) → IsPlainPart p → AgreeAt xs ys (operands p) → ((s : ℕ) → Names ints p (ints + s) → flag_at m.now s ≡ flag_at o.now s) → truth_of m xs p ≡ truth_of o ys p
truth_of_plain ints m o xs ys (parts.Truth b) plain h same = refl
truth_of_plain ints m o xs ys (parts.Flag s b) plain h same =
    let P : Bool → Type 0 = λ x. flag_at (side m x) s ≡ flag_at (side o x) s in
    subst P (sym plain) (same s (plain, refl))
truth_of_plain ints m o xs ys (parts.Compare r) plain h same =
    let P : List _ → Type 0 = λ ts. is_at_most_zero (terms_value m ts +ℤ r.constant) ≡ is_at_most_zero (terms_value o ts +ℤ r.constant) in
    subst P (sym plain) refl
truth_of_plain ints m o xs ys (parts.Not a) plain h same = ap not (first_of xs ys a [] h)
truth_of_plain ints m o xs ys (parts.And a b) plain h same = let e = first_of xs ys a (b ∷ []) h in let f = second_of xs ys a b [] h in rw (e, f)
truth_of_plain ints m o xs ys (parts.Or a b) plain h same = let e = first_of xs ys a (b ∷ []) h in let f = second_of xs ys a b [] h in rw (e, f)
truth_of_plain ints m o xs ys (parts.Same a b) plain h same = let e = first_of xs ys a (b ∷ []) h in let f = second_of xs ys a b [] h in rw (e, f)
truth_of_plain ints m o xs ys (parts.Choice c a b) plain h same = let e = first_of xs ys c (a ∷ b ∷ []) h in let f = second_of xs ys c a (b ∷ []) h in let g = third_of xs ys c a b [] h in rw (e, f, g)
truth_of_plain ints m o xs ys (parts.Arrow a b) plain h same = absurd plain

-- the part of a number
pub part_at : (ps : List Part) (n : ℕ) → n < length ps → (p : Part) × (slice_get ps n ≡ Some p)
part_at [] n lt = absurd (omega (arith, lt))
part_at (p ∷ ps) zero lt = (p, refl)
part_at (p ∷ ps) (suc n) lt = part_at ps n (omega (arith, lt))

pub plain_at : (d : ProblemDraft) → IsPlainForm d → (n : ℕ) (p : Part) → slice_get d.parts n ≡ Some p → IsPlainPart p
plain_at d form n p e =
    let P : Part → Type 0 = IsPlainPart in
    subst P (same_Some (get_or d.parts n p) p (sym (slice_get-get_or d.parts n p (slice_get_within d.parts n p e)) ∙ e))
    (form.plain.parts n p (slice_get_within d.parts n p e))

-- a part's truth depends on the streams that it names alone
pub holds_local : (d : ProblemDraft) → IsPlainForm d → (m o : Moment) (bound n : ℕ) → n < bound → n < length d.parts → ((s : ℕ) → PartNames d (d.ints + s) n → flag_at m.now s ≡ flag_at o.now s) → holds m d.parts n ≡ holds o d.parts n
holds_local d form m o zero n lt within same = absurd (omega (arith, lt))
holds_local d form m o (suc bound) n lt within same =
    let there = part_at d.parts n within in
    let p : Part = there.0 in
    let is : slice_get d.parts n ≡ Some p = there.1 in
    let before : All (λ a. a < n) (operands p) = form.formed.before n p is in
    holds_said m d.parts n p is before
    ∙ truth_of_plain d.ints m o (truths m d.parts) (truths o d.parts) p (plain_at d form n p is)
    (λ k e at. let less : get_or (operands p) k e < n = before k e at in
    holds_local d form m o bound (get_or (operands p) k e) (omega (arith, lt, less)) (omega (arith, within, less))
    (λ s names. same s (operand n (get_or (operands p) k e) p is (Contains-get_or (operands p) k e at) names)))
    (λ s names. same s (itself n p is names))
    ∙ sym (holds_said o d.parts n p is before)

-- a part of a plain problem holds at a moment as it does where the moment's flags stand alone
pub holds_alone : (d : ProblemDraft) → IsPlainForm d → (m : Moment) (n : ℕ) → n < length d.parts → holds m d.parts n ≡ holds_in d m.now.flags n
holds_alone d form m n within = holds_local d form m (alone m.now.flags) (suc n) n (omega arith) within (λ s names. refl)

before_at : (n : ℕ) (p : Part) → All (λ a. a < n) (operands p) → AreBefore n p
before_at n (parts.Truth b) h = tt
before_at n (parts.Flag s b) h = tt
before_at n (parts.Compare r) h = tt
before_at n (parts.Not a) h = h 0 0 (omega arith)
before_at n (parts.And a b) h = (h 0 0 (omega arith), h 1 0 (omega arith))
before_at n (parts.Or a b) h = (h 0 0 (omega arith), h 1 0 (omega arith))
before_at n (parts.Same a b) h = (h 0 0 (omega arith), h 1 0 (omega arith))
before_at n (parts.Choice c a b) h = (h 0 0 (omega arith), h 1 0 (omega arith), h 2 0 (omega arith))
before_at n (parts.Arrow a b) h = (h 0 0 (omega arith), h 1 0 (omega arith))

pub is_part_at : (d : ProblemDraft) → IsPlainForm d → (n : ℕ) (p : Part) → n < length d.parts → p ≡ get_or d.parts n p → IsPartAt d n p
is_part_at d form n p within is =
    let there : slice_get d.parts n ≡ Some p = slice_get-get_or d.parts n p within ∙ ap (λ (x : Part). Some x) (sym is) in
    let I : Part → Type 0 = IsPartOf d in
    record {
      there = there;
      before = before_at n p (form.formed.before n p there);
      inside = subst I (sym is) (form.formed.each_part n p within);
      plain = plain_at d form n p there;
    }

-- what a part's truth is by the part
pub said_in : (d : ProblemDraft) → IsPlainForm d → (flags : List Bool) (n : ℕ) (p q : Part) → IsPartAt d n p → p ≡ q → holds_in d flags n ≡ truth_of (alone flags) (truths (alone flags) d.parts) q
said_in d form flags n p q at is =
    let Q : Part → Type 0 = λ x. holds_in d flags n ≡ truth_of (alone flags) (truths (alone flags) d.parts) x in
    subst Q is (holds_said (alone flags) d.parts n p at.there (form.formed.before n p at.there))

pub said_flag : (d : ProblemDraft) → IsPlainForm d → (flags : List Bool) (n s : ℕ) (before : Bool) (p : Part) → IsPartAt d n p → p ≡ parts.Flag s before → holds_in d flags n ≡ get_or flags s false
said_flag d form flags n s before p at is =
    let I : Part → Type 0 = IsPlainPart in
    let plain : before ≡ false = subst I is at.plain in
    let Q : Bool → Type 0 = λ b. holds_in d flags n ≡ flag_at (side (alone flags) b) s in
    subst Q plain (said_in d form flags n p (parts.Flag s before) at is)

small_fits : (z : ℤ) → magnitude z ≤ 2 ^ 48 → SFits w64 z
small_fits (pos n) h = omega (arith, h)
small_fits (negsuc n) h = omega (arith, h)

zero_plus : (z : ℤ) → pos 0 +ℤ z ≡ z
zero_plus z = omega (arith, ints)

pub said_compare : (d : ProblemDraft) → IsPlainForm d → (flags : List Bool) (n : ℕ) (row : Row) (p : Part) → IsPartAt d n p → p ≡ parts.Compare row → le_z (to_z w64 (of_z w64 row.constant)) (pos 0) ≡ holds_in d flags n
said_compare d form flags n row p at is =
    let I : Part → Type 0 = IsPlainPart in
    let J : Part → Type 0 = IsPartOf d in
    let plain : row.terms ≡ [] = subst I is at.plain in
    let inside : IsRow d.ints row = subst J is at.inside in
    let Q : List _ → Type 0 = λ ts. holds_in d flags n ≡ is_at_most_zero (terms_value (alone flags) ts +ℤ row.constant) in
    let e : holds_in d flags n ≡ le_z (pos 0 +ℤ row.constant) (pos 0) = subst Q plain (said_in d form flags n p (parts.Compare row) at is) in
    let L : ℤ → ℤ → Type 0 = λ x y. le_z x (pos 0) ≡ le_z y (pos 0) in
    ap (λ (z : ℤ). le_z z (pos 0)) (to_z-of_z w64 row.constant (small_fits row.constant inside.constant) ∙ sym (zero_plus row.constant)) ∙ sym e

pub when_both : (h x y r s : Bool) → h ≡ (x && y) → r ≡ x → r ≡ true → s ≡ y → s ≡ h
when_both h true y r s e f t g = g ∙ sym e
when_both h false y r s e f t g = absurd (true≢false (sym t ∙ f))

pub when_not_first : (h x y r : Bool) → h ≡ (x && y) → r ≡ x → r ≡ false → r ≡ h
when_not_first h true y r e f t = absurd (true≢false (sym f ∙ t))
when_not_first h false y r e f t = t ∙ sym e

pub when_first : (h x y r : Bool) → h ≡ (x || y) → r ≡ x → r ≡ true → r ≡ h
when_first h true y r e f t = t ∙ sym e
when_first h false y r e f t = absurd (true≢false (sym t ∙ f))

pub when_second : (h x y r s : Bool) → h ≡ (x || y) → r ≡ x → r ≡ false → s ≡ y → s ≡ h
when_second h true y r s e f t g = absurd (true≢false (sym f ∙ t))
when_second h false y r s e f t g = g ∙ sym e

both : (x y : Bool) → beq x y ≡ (if x then y else not y)
both true true = refl
both true false = refl
both false true = refl
both false false = refl

pub when_same : (h x y r s : Bool) → h ≡ (if x then y else not y) → r ≡ x → s ≡ y → beq r s ≡ h
when_same h x y r s e f g = rw (f, g, e) (both x y)

pub when_yes : (h x y z r s : Bool) → h ≡ (if x then y else z) → r ≡ x → r ≡ true → s ≡ y → s ≡ h
when_yes h true y z r s e f t g = g ∙ sym e
when_yes h false y z r s e f t g = absurd (true≢false (sym t ∙ f))

pub when_no : (h x y z r s : Bool) → h ≡ (if x then y else z) → r ≡ x → r ≡ false → s ≡ z → s ≡ h
when_no h true y z r s e f t g = absurd (true≢false (sym f ∙ t))
when_no h false y z r s e f t g = g ∙ sym e

length-truths_after : (m : Moment) (known : List Bool) (ps : List Part) → length (truths_after m known ps) ≡ length known + length ps
length-truths_after m known [] = omega arith
length-truths_after m known (p ∷ ps) = length-truths_after m (known ++ truth_of m known p ∷ []) ps ∙ rw (length_push known (truth_of m known p)) (omega arith)

-- the truths are such, and no other list is
pub are_truths : (d : ProblemDraft) → IsWellFormed d → (m : Moment) → AreTruths m d.parts (truths m d.parts)
are_truths d formed m = record {
  size = length-truths_after m [] d.parts ∙ zero-add (length d.parts);
  each = λ n p there. holds_said m d.parts n p there (formed.before n p there);
}

same_below : (d : ProblemDraft) → IsWellFormed d → (m : Moment) (xs ys : List Bool) → AreTruths m d.parts xs → AreTruths m d.parts ys → (bound n : ℕ) → n < bound → n < length d.parts → get_or xs n false ≡ get_or ys n false
same_below d formed m xs ys x y zero n lt within = absurd (omega (arith, lt))
same_below d formed m xs ys x y (suc bound) n lt within =
    let there = part_at d.parts n within in
    x.each n there.0 there.1
    ∙ truth_of-same m xs ys there.0 (λ k e at. let less : get_or (operands there.0) k e < n = formed.before n there.0 there.1 k e at in
    same_below d formed m xs ys x y bound (get_or (operands there.0) k e) (omega (arith, lt, less)) (omega (arith, within, less)))
    ∙ sym (y.each n there.0 there.1)

pub one_truths : (d : ProblemDraft) → IsWellFormed d → (m : Moment) (known : List Bool) → AreTruths m d.parts known → known ≡ truths m d.parts
one_truths d formed m known are =
    let own = are_truths d formed m in
    ext_get_or false known (truths m d.parts) (are.size ∙ sym own.size)
    (λ n lt. same_below d formed m known (truths m d.parts) are own (suc n) n (omega arith) (omega (arith, lt, are.size)))
