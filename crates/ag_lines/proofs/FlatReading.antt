-- Flat operands are read as expressions by the lines of the grammar.
use Rattle.std.proofs.Common.{◌≡◌, inl, inr, ℕ, true, false, List, [], ◌∷◌, ◌++◌, Option, Some, None, refl, sym, ap, subst, ◌∙◌, append_assoc}
use Rattle.std.specs.Prelude.{pos}
use Rattle.ag_lex.specs.Rules.{decimal}
use Rattle.ag_lex.specs.declared.token.Token.{Token}
use Rattle.ag_aadl.specs.declared.marked.Marked.{Marked}
use Rattle.ag_terms.specs.declared.names.Path.{Path}
use Rattle.ag_aadl.specs.Marked.{own, under}
use Rattle.ag_aadl.specs.Meaning.{path_of}
use Rattle.ag_annex.specs.declared.frames.Frame.{Frame}
use Rattle.ag_annex.specs.declared.frames.Frame.TheVariants as frame
use Rattle.ag_annex.specs.declared.frames.Operand.{Operand}
use Rattle.ag_annex.specs.declared.frames.Operand.TheVariants.{Nothing, Name, Whole}
use Rattle.ag_annex.specs.declared.frames.Reading.{Reading}
use Rattle.ag_annex.specs.declared.nesting.Open.{Open}
use Rattle.ag_annex.specs.declared.nesting.Open.TheVariants.{Bracket, Test, Yes, No, Prefix}
use Rattle.ag_terms.specs.declared.terms.Binary.TheVariants.{Arrow}
use Rattle.ag_terms.specs.declared.terms.Term.{Term, Number, Truth, Named}
use Rattle.ag_terms.specs.declared.terms.Term.TheViews as term
use Rattle.ag_terms.specs.declared.terms.Unary.TheVariants as unary
use Rattle.ag_annex.specs.Expressions.{operand_term, named as named_as, is_nothing, close_all, with_last, behind_close, behind_comma, behind_test, behind_yes, read_token, read_tokens}
use Rattle.ag_lines.specs.Lines.{factor, GoesOn, name_parts_in}
use Rattle.ag_lines.specs.Reach.{NoChoice, IsFar, IsStated, AreFar, negative, negated, number, truth, falsity, grouped, previous, started, named, called, no_argument, last_argument, next_argument}
use Rattle.ag_annex.specs.Marks.{negative_mark, not_mark, pre_mark, prev_mark, if_mark, then_mark, else_mark, number_mark, true_mark, false_mark, group_mark, operand_mark, call_mark, argument_mark, close_mark, path_mark, path_body_mark}
use Rattle.ag_annex.specs.Nesting.{behind}
use Rattle.ag_lines.proofs.Flat.{IsFlat, flat_choice, flat_prefix, flat_alone, flat_between, IsPrimary, flat_number, flat_truth, flat_falsity, flat_group, flat_pre, flat_prev, flat_name, flat_bare_call, flat_call, AreFlat, flat_last, flat_more, Opens, opens-apart, opens-next}
use Rattle.ag_lines.proofs.Joining.{regroup-choice}
use Rattle.ag_lines.proofs.Levels.{Level, nothing, before_one, behind_else, Stops}
use Rattle.ag_lines.proofs.Names.{read-name, name-open, name-told}
use Rattle.ag_lines.proofs.Reaching.{read-as, read-apart, AreInner, crosses-close, crosses-comma, crosses-then, crosses-else, stops-group, stops-pre, stops-prev, stops-start, stops-call, stops-test, stops-yes, Behind, arrived, ended, operator-read}

-- nothing is read behind what opens this
abbrev pub unread_in : List Frame → Reading
unread_in frames = record { frames = frames; operand = Nothing }

-- ---- brackets and choices

-- an expression and the token behind it are read
record Separated (bytes : List ℕ) (base : List Frame) (next : List Open) (act : Operand → List Frame × Term → Reading) (ms more : List Marked) (r : Reading) (opened : List Open) : Type 0 where
  operand : Operand
  last : Term
  read : r ≡ read_tokens bytes (act operand (base, last)) more
  further : Opens next more opened
  ranked : IsStated bytes 0 ms last
  some : is_nothing operand ≡ false

-- A token with this mark ends what lies before it in its brackets, and is read with it.
separated : (bytes : List ℕ) (base : List Frame) (o : Open) (outer next : List Open) → Stops base (o ∷ outer) → (k : ℕ) (act : Operand → List Frame × Term → Reading)
    → ((r : Reading) (terminal : ℕ) (token : Token) → read_token bytes r (record { mark = k; terminal = terminal; token = token }) ≡ act r.operand (close_all r.frames (operand_term bytes r.operand)))
    → ((opens : List Open) → AreInner opens → behind k (opens ++ o ∷ outer) ≡ Some next)
    → (ms : List Marked) (m : Marked) (more : List Marked) (opened : List Open) → m.mark ≡ k
    → ((middle : List Open) → Opens (o ∷ outer) ms middle → Behind bytes base (o ∷ outer) ms (read_tokens bytes (unread_in base) ms) middle)
    → Opens (o ∷ outer) (ms ++ m ∷ more) opened → Separated bytes base next act ms more (read_tokens bytes (unread_in base) (ms ++ m ∷ more)) opened
separated bytes base o outer next stops k act acts crosses ms m more opened e inner is =
    let p = opens-apart (o ∷ outer) ms (m ∷ more) opened is in
    let b = ended bytes base (o ∷ outer) stops ms (read_tokens bytes (unread_in base) ms) p.0 (inner p.0 p.1) in
    let from : Opens (b.opens ++ o ∷ outer) (m ∷ more) opened = subst (λ (z : List Open). Opens z (m ∷ more) opened) b.opening p.2 in
    let at : read_token bytes (read_tokens bytes (unread_in base) ms) m ≡ act b.operand (base, b.last) =
    ap (λ z. read_token bytes z m) b.read ∙ read-as bytes (record { frames = b.frames; operand = b.operand }) m k e ∙ acts (record { frames = b.frames; operand = b.operand }) m.terminal m.token ∙ ap (act b.operand) b.closes in
    record {
      operand = b.operand;
      last = b.last;
      read = read-apart bytes (unread_in base) ms (m ∷ more) ∙ ap (λ z. read_tokens bytes z more) at;
      further = opens-next (b.opens ++ o ∷ outer) m more opened k next e (crosses b.opens b.inner) from;
      ranked = b.ranked;
      some = b.some;
    }

-- behind an operand the arguments have one more
pub with-some : (args : List Term) (o : Operand) (t : Term) → is_nothing o ≡ false → with_last args o t ≡ args ++ t ∷ []
with-some args Nothing t e = absurd cc
with-some args (Name parts bodies) t e = refl
with-some args (Whole u) t e = refl

-- ---- operands

-- an operand is read behind what waits for it
record Read (bytes : List ℕ) (frames : List Frame) (outer : List Open) (ps : List Marked) (r : Reading) (opened : List Open) : Type 0 where
  operand : Operand
  read : r ≡ record { frames = frames; operand = operand }
  opening : outer ≡ opened
  ranked : IsFar bytes factor ps (operand_term bytes operand) NoChoice false
  some : is_nothing operand ≡ false

-- the arguments of a call are read with its `)`
record Arguments (bytes : List ℕ) (path : Path) (args : List Term) (frames : List Frame) (outer : List Open) (es : List Marked) (r : Reading) (opened : List Open) : Type 0 where
  t : Term
  ts : List Term
  read : r ≡ record { frames = frames; operand = Whole (term.Call path (args ++ t ∷ ts)) }
  opening : outer ≡ opened
  are : AreFar bytes es (t ∷ ts)

-- one token that is an operand
single : (bytes : List ℕ) (frames : List Frame) (outer opened : List Open) (m : Marked) (k : ℕ) (t : Term) → m.mark ≡ k → behind k outer ≡ Some outer
    → read_token bytes (unread_in frames) (record { mark = k; terminal = m.terminal; token = m.token }) ≡ record { frames = frames; operand = Whole t } → IsFar bytes factor (m ∷ []) t NoChoice false
    → Opens outer (m ∷ []) opened → Read bytes frames outer (m ∷ []) (read_tokens bytes (unread_in frames) (m ∷ [])) opened
single bytes frames outer opened m k t e f g is o = record {
  operand = Whole t;
  read = read-as bytes (unread_in frames) m k e ∙ g;
  opening = opens-next outer m [] opened k outer e f o;
  ranked = is;
  some = refl;
}

-- a name without arguments
lone : (bytes : List ℕ) (frames : List Frame) (outer opened : List Open) (m : Marked) (ms : List Marked) → m.mark ≡ path_mark → GoesOn ms → Opens outer (m ∷ ms) opened
    → Read bytes frames outer (m ∷ ms) (read_tokens bytes (unread_in frames) (m ∷ ms)) opened
lone bytes frames outer opened m ms e g o =
    let n = name-told bytes m ms e g in
    let t : Named n.path ≡ operand_term bytes (Name (m.token ∷ name_parts_in ms) (under path_body_mark ms)) = ap named_as (sym n.told) in
    record {
      operand = Name (m.token ∷ name_parts_in ms) (under path_body_mark ms);
      read = read-name bytes frames m ms e g;
      opening = name-open outer m ms opened e g o;
      ranked = subst (λ (z : Term). IsFar bytes factor (m ∷ ms) z NoChoice false) t (named (m ∷ ms) n.path n.named);
      some = refl;
    }

-- a name with the `(` behind it
calls : (bytes : List ℕ) (frames : List Frame) (m : Marked) (ms : List Marked) (o : Marked) (path : Path) → m.mark ≡ path_mark → GoesOn ms → o.mark ≡ call_mark
    → path_of bytes (m.token ∷ name_parts_in ms) (under path_body_mark ms) ≡ Some path
    → read_token bytes (read_tokens bytes (unread_in frames) (m ∷ ms)) o ≡ unread_in (frame.Call path [] ∷ frames)
calls bytes frames m ms o path e g f told =
    ap (λ z. read_token bytes z o) (read-name bytes frames m ms e g)
    ∙ read-as bytes (record { frames = frames; operand = Name (m.token ∷ name_parts_in ms) (under path_body_mark ms) }) o call_mark f
    ∙ ap (λ (p : Option Path). let x : Reading = elim p [
      | None ↦ record { frames = frames; operand = Nothing }
      | Some q ↦ record { frames = frame.Call q [] ∷ frames; operand = Nothing }
    ] in x) told

-- what is open behind it
calls-open : (outer opened : List Open) (m : Marked) (ms : List Marked) (o : Marked) (more : List Marked) → m.mark ≡ path_mark → GoesOn ms → o.mark ≡ call_mark → Opens outer ((m ∷ ms) ++ o ∷ more) opened
    → Opens (Bracket ∷ outer) more opened
calls-open outer opened m ms o more e g f is =
    let p = opens-apart outer (m ∷ ms) (o ∷ more) opened is in
    let from : Opens outer (o ∷ more) opened = subst (λ (z : List Open). Opens z (o ∷ more) opened) (sym (name-open outer m ms p.0 e g p.1)) p.2 in
    opens-next outer o more opened call_mark (Bracket ∷ outer) f refl from

-- a call without arguments
bare : (bytes : List ℕ) (frames : List Frame) (outer opened : List Open) (m : Marked) (ms : List Marked) (o n : Marked) → m.mark ≡ path_mark → GoesOn ms → o.mark ≡ call_mark → n.mark ≡ close_mark
    → Opens outer ((m ∷ ms) ++ o ∷ n ∷ []) opened → Read bytes frames outer ((m ∷ ms) ++ o ∷ n ∷ []) (read_tokens bytes (unread_in frames) ((m ∷ ms) ++ o ∷ n ∷ [])) opened
bare bytes frames outer opened m ms o n e g f h is =
    let name = name-told bytes m ms e g in
    record {
      operand = Whole (term.Call name.path []);
      read =
          read-apart bytes (unread_in frames) (m ∷ ms) (o ∷ n ∷ [])
          ∙ ap (λ z. read_token bytes z n) (calls bytes frames m ms o name.path e g f name.told)
          ∙ read-as bytes (unread_in (frame.Call name.path [] ∷ frames)) n close_mark h;
      opening = opens-next (Bracket ∷ outer) n [] opened close_mark outer h refl (calls-open outer opened m ms o (n ∷ []) e g f is);
      ranked = called (m ∷ ms) [] o n name.path [] name.named f h no_argument;
      some = refl;
    }

mutual
  -- a flat operand behind what waits in a level
  pub read-flat : (bytes : List ℕ) {es : List Marked} → IsFlat es → (base : List Frame) (outer : List Open) → Stops base outer → (level : List Frame) (before : List Marked) (opens : List Open) → Level bytes level before opens
      → (all : List Marked) (opened : List Open) → all ≡ before ++ es → Opens (opens ++ outer) es opened → Behind bytes base outer all (read_tokens bytes (unread_in (level ++ base)) es) opened
  read-flat bytes (flat_choice w m n tests firsts others x y z a b c) base outer stops level before opens lv all opened e o =
      let frames = level ++ base in
      let open_here = opens ++ outer in
      let place = w.token.place in
      let from = opens-next open_here w (tests ++ m ∷ (firsts ++ n ∷ others)) opened if_mark (Test ∷ open_here) x refl o in
      let s : Separated bytes (frame.Test place ∷ frames) (Yes ∷ open_here) (λ q. behind_test) tests (firsts ++ n ∷ others) (read_tokens bytes (unread_in (frame.Test place ∷ frames)) (tests ++ m ∷ (firsts ++ n ∷ others))) opened =
      separated bytes (frame.Test place ∷ frames) Test open_here (Yes ∷ open_here) (stops-test place frames open_here) then_mark (λ q. behind_test) (λ r k u. refl) (λ q i. ap Some (crosses-then q open_here i)) tests m (firsts ++ n ∷ others) opened y
      (λ middle q. read-flat bytes a (frame.Test place ∷ frames) (Test ∷ open_here) (stops-test place frames open_here) [] [] [] nothing tests middle refl q) from in
      let u : Separated bytes (frame.Yes place s.last ∷ frames) (No ∷ open_here) (λ q. behind_yes) firsts others (read_tokens bytes (unread_in (frame.Yes place s.last ∷ frames)) (firsts ++ n ∷ others)) opened =
      separated bytes (frame.Yes place s.last ∷ frames) Yes open_here (No ∷ open_here) (stops-yes place s.last frames open_here) else_mark (λ q. behind_yes) (λ r k v. refl) (λ q i. ap Some (crosses-else q open_here i)) firsts n others opened z
      (λ middle q. read-flat bytes b (frame.Yes place s.last ∷ frames) (Yes ∷ open_here) (stops-yes place s.last frames open_here) [] [] [] nothing firsts middle refl q) s.further in
      arrived bytes base outer all _ (read_tokens bytes (unread_in (frame.No place s.last u.last ∷ frames)) others) opened
      (ap (λ r. read_tokens bytes r (tests ++ m ∷ (firsts ++ n ∷ others))) (read-as bytes (unread_in frames) w if_mark x) ∙ s.read ∙ u.read)
      (read-flat bytes c base outer stops (frame.No place s.last u.last ∷ level) (before ++ (w ∷ (tests ++ m ∷ (firsts ++ n ∷ [])))) (No ∷ opens)
      (behind_else w m n tests firsts s.last u.last level before opens x y z s.ranked u.ranked lv) all opened (e ∙ sym (regroup-choice before tests firsts others w m n)) u.further)
  read-flat bytes (flat_prefix m ms (inl x) is) base outer stops level before opens lv all opened e o =
      arrived bytes base outer all _ (read_tokens bytes (unread_in (frame.Prefix unary.Minus m.token.place ∷ (level ++ base))) ms) opened
      (ap (λ r. read_tokens bytes r ms) (read-as bytes (unread_in (level ++ base)) m negative_mark x))
      (read-flat bytes is base outer stops (frame.Prefix unary.Minus m.token.place ∷ level) (before ++ m ∷ []) (Prefix ∷ opens)
      (before_one unary.Minus m level before opens (λ os t tail waiting r. negative m os t tail waiting x r) lv) all opened (e ∙ sym (append_assoc before (m ∷ []) ms))
      (opens-next (opens ++ outer) m ms opened negative_mark (Prefix ∷ (opens ++ outer)) x refl o))
  read-flat bytes (flat_prefix m ms (inr x) is) base outer stops level before opens lv all opened e o =
      arrived bytes base outer all _ (read_tokens bytes (unread_in (frame.Prefix unary.Not m.token.place ∷ (level ++ base))) ms) opened
      (ap (λ r. read_tokens bytes r ms) (read-as bytes (unread_in (level ++ base)) m not_mark x))
      (read-flat bytes is base outer stops (frame.Prefix unary.Not m.token.place ∷ level) (before ++ m ∷ []) (Prefix ∷ opens)
      (before_one unary.Not m level before opens (λ os t tail waiting r. negated m os t tail waiting x r) lv) all opened (e ∙ sym (append_assoc before (m ∷ []) ms))
      (opens-next (opens ++ outer) m ms opened not_mark (Prefix ∷ (opens ++ outer)) x refl o))
  read-flat bytes (flat_alone ps is) base outer stops level before opens lv all opened e o =
      let p = read-primary bytes is (level ++ base) (opens ++ outer) opened o in
      record {
        level = level;
        before = before;
        os = ps;
        opens = opens;
        operand = p.operand;
        read = p.read;
        opening = sym p.opening;
        parts = e;
        stands = lv;
        ranked = p.ranked;
        some = p.some;
      }
  read-flat bytes (flat_between op ps m ms is b further) base outer stops level before opens lv all opened e o =
      let q = opens-apart (opens ++ outer) ps (m ∷ ms) opened o in
      let p = read-primary bytes is (level ++ base) (opens ++ outer) q.0 q.1 in
      let here : behind m.mark (opens ++ outer) ≡ Some q.2.0 = ap (behind m.mark) p.opening ∙ q.2.1 in
      let w = operator-read bytes base outer stops level before opens lv ps p.operand m op b p.ranked q.2.0 here in
      arrived bytes base outer all _ (read_tokens bytes (unread_in (w.level ++ base)) ms) opened
      (read-apart bytes (unread_in (level ++ base)) ps (m ∷ ms) ∙ ap (λ r. read_tokens bytes (read_token bytes r m) ms) p.read ∙ ap (λ r. read_tokens bytes r ms) w.read)
      (read-flat bytes further base outer stops w.level ((before ++ ps) ++ m ∷ []) w.opens w.stands all opened
      (e ∙ sym (append_assoc before ps (m ∷ ms)) ∙ sym (append_assoc (before ++ ps) (m ∷ []) ms)) (subst (λ (z : List Open). Opens z ms opened) w.opening q.2.2))

  -- an operand without operators, behind anything
  read-primary : (bytes : List ℕ) {ps : List Marked} → IsPrimary ps → (frames : List Frame) (outer opened : List Open) → Opens outer ps opened → Read bytes frames outer ps (read_tokens bytes (unread_in frames) ps) opened
  read-primary bytes (flat_number m x) frames outer opened o =
      single bytes frames outer opened m number_mark (Number (pos (decimal (own bytes m.token))) m.token.place) x refl refl (number m x) o
  read-primary bytes (flat_truth m x) frames outer opened o = single bytes frames outer opened m true_mark (Truth true m.token.place) x refl refl (truth m x) o
  read-primary bytes (flat_falsity m x) frames outer opened o = single bytes frames outer opened m false_mark (Truth false m.token.place) x refl refl (falsity m x) o
  read-primary bytes (flat_group m n ms x y is) frames outer opened o =
      let s : Separated bytes (frame.Group ∷ frames) outer behind_close ms [] (read_tokens bytes (unread_in (frame.Group ∷ frames)) (ms ++ n ∷ [])) opened =
      separated bytes (frame.Group ∷ frames) Bracket outer outer (stops-group frames outer) close_mark behind_close (λ r k u. refl) (λ q i. ap Some (crosses-close q outer i)) ms n [] opened y
      (λ middle q. read-flat bytes is (frame.Group ∷ frames) (Bracket ∷ outer) (stops-group frames outer) [] [] [] nothing ms middle refl q)
      (opens-next outer m (ms ++ n ∷ []) opened group_mark (Bracket ∷ outer) x refl o) in
      record {
        operand = Whole s.last;
        read = ap (λ r. read_tokens bytes r (ms ++ n ∷ [])) (read-as bytes (unread_in frames) m group_mark x) ∙ s.read;
        opening = s.further;
        ranked = grouped m n ms s.last s.ranked.tail s.ranked.waiting x y s.ranked.far;
        some = refl;
      }
  read-primary bytes (flat_pre w m n ms v x y is) frames outer opened o =
      let place = w.token.place in
      let s : Separated bytes (frame.Pre place ∷ frames) outer behind_close ms [] (read_tokens bytes (unread_in (frame.Pre place ∷ frames)) (ms ++ n ∷ [])) opened =
      separated bytes (frame.Pre place ∷ frames) Bracket outer outer (stops-pre place frames outer) close_mark behind_close (λ r k u. refl) (λ q i. ap Some (crosses-close q outer i)) ms n [] opened y
      (λ middle q. read-flat bytes is (frame.Pre place ∷ frames) (Bracket ∷ outer) (stops-pre place frames outer) [] [] [] nothing ms middle refl q)
      (opens-next outer m (ms ++ n ∷ []) opened operand_mark (Bracket ∷ outer) x refl (opens-next outer w (m ∷ (ms ++ n ∷ [])) opened pre_mark outer v refl o)) in
      record {
        operand = Whole (term.Unary unary.Pre place s.last);
        read =
            ap (λ r. read_tokens bytes (read_token bytes r m) (ms ++ n ∷ [])) (read-as bytes (unread_in frames) w pre_mark v)
            ∙ ap (λ r. read_tokens bytes r (ms ++ n ∷ [])) (read-as bytes (unread_in (frame.Pre place ∷ frames)) m operand_mark x) ∙ s.read;
        opening = s.further;
        ranked = previous w m n ms s.last s.ranked.tail s.ranked.waiting v x y s.ranked.far;
        some = refl;
      }
  read-primary bytes (flat_prev w m c n es is v x y z a b) frames outer opened o =
      let place = w.token.place in
      let behind_comma_is = is ++ n ∷ [] in
      let s : Separated bytes (frame.Prev place ∷ frames) (Bracket ∷ outer) (λ q. behind_comma) es behind_comma_is (read_tokens bytes (unread_in (frame.Prev place ∷ frames)) (es ++ c ∷ behind_comma_is)) opened =
      separated bytes (frame.Prev place ∷ frames) Bracket outer (Bracket ∷ outer) (stops-prev place frames outer) argument_mark (λ q. behind_comma) (λ r k u. refl) (λ q i. ap Some (crosses-comma q outer i)) es c behind_comma_is opened y
      (λ middle q. read-flat bytes a (frame.Prev place ∷ frames) (Bracket ∷ outer) (stops-prev place frames outer) [] [] [] nothing es middle refl q)
      (opens-next outer m (es ++ c ∷ behind_comma_is) opened operand_mark (Bracket ∷ outer) x refl (opens-next outer w (m ∷ (es ++ c ∷ behind_comma_is)) opened prev_mark outer v refl o)) in
      let u : Separated bytes (frame.Start place s.last ∷ frames) outer behind_close is [] (read_tokens bytes (unread_in (frame.Start place s.last ∷ frames)) behind_comma_is) opened =
      separated bytes (frame.Start place s.last ∷ frames) Bracket outer outer (stops-start place s.last frames outer) close_mark behind_close (λ r k t. refl) (λ q i. ap Some (crosses-close q outer i)) is n [] opened z
      (λ middle q. read-flat bytes b (frame.Start place s.last ∷ frames) (Bracket ∷ outer) (stops-start place s.last frames outer) [] [] [] nothing is middle refl q) s.further in
      record {
        operand = Whole (term.Binary Arrow place u.last (term.Unary unary.Pre place s.last));
        read =
            ap (λ r. read_tokens bytes (read_token bytes r m) (es ++ c ∷ behind_comma_is)) (read-as bytes (unread_in frames) w prev_mark v)
            ∙ ap (λ r. read_tokens bytes r (es ++ c ∷ behind_comma_is)) (read-as bytes (unread_in (frame.Prev place ∷ frames)) m operand_mark x) ∙ s.read ∙ u.read;
        opening = u.further;
        ranked = started w m c n es is s.last u.last s.ranked.tail u.ranked.tail s.ranked.waiting u.ranked.waiting v x y z s.ranked.far u.ranked.far;
        some = refl;
      }
  read-primary bytes (flat_name m ms x g) frames outer opened o = lone bytes frames outer opened m ms x g o
  read-primary bytes (flat_bare_call m ms c n x g y z) frames outer opened o = bare bytes frames outer opened m ms c n x g y z o
  read-primary bytes (flat_call m ms c n args x g y z are) frames outer opened o =
      let name = name-told bytes m ms x g in
      let a = read-arguments bytes are name.path [] frames outer n opened z (calls-open outer opened m ms c (args ++ n ∷ []) x g y o) in
      record {
        operand = Whole (term.Call name.path (a.t ∷ a.ts));
        read =
            read-apart bytes (unread_in frames) (m ∷ ms) (c ∷ (args ++ n ∷ []))
            ∙ ap (λ r. read_tokens bytes r (args ++ n ∷ [])) (calls bytes frames m ms c name.path x g y name.told) ∙ a.read;
        opening = a.opening;
        ranked = called (m ∷ ms) args c n name.path (a.t ∷ a.ts) name.named y z a.are;
        some = refl;
      }

  -- the arguments of a call, of which some may stand before
  read-arguments : (bytes : List ℕ) {es : List Marked} → AreFlat es → (path : Path) (args : List Term) (frames : List Frame) (outer : List Open) (n : Marked) (opened : List Open) → n.mark ≡ close_mark
      → Opens (Bracket ∷ outer) (es ++ n ∷ []) opened → Arguments bytes path args frames outer es (read_tokens bytes (unread_in (frame.Call path args ∷ frames)) (es ++ n ∷ [])) opened
  read-arguments bytes (flat_last ms is) path args frames outer n opened x o =
      let s : Separated bytes (frame.Call path args ∷ frames) outer behind_close ms [] (read_tokens bytes (unread_in (frame.Call path args ∷ frames)) (ms ++ n ∷ [])) opened =
      separated bytes (frame.Call path args ∷ frames) Bracket outer outer (stops-call path args frames outer) close_mark behind_close (λ r k u. refl) (λ q i. ap Some (crosses-close q outer i)) ms n [] opened x
      (λ middle q. read-flat bytes is (frame.Call path args ∷ frames) (Bracket ∷ outer) (stops-call path args frames outer) [] [] [] nothing ms middle refl q) o in
      record {
        t = s.last;
        ts = [];
        read = s.read ∙ ap (λ z. let r : Reading = record { frames = frames; operand = Whole (term.Call path z) } in r) (with-some args s.operand s.last s.some);
        opening = s.further;
        are = last_argument ms s.last s.ranked.tail s.ranked.waiting s.ranked.far;
      }
  read-arguments bytes (flat_more c ms more y is are) path args frames outer n opened x o =
      let apart : (ms ++ c ∷ more) ++ n ∷ [] ≡ ms ++ c ∷ (more ++ n ∷ []) = append_assoc ms (c ∷ more) (n ∷ []) in
      let s : Separated bytes (frame.Call path args ∷ frames) (Bracket ∷ outer) (λ q. behind_comma) ms (more ++ n ∷ []) (read_tokens bytes (unread_in (frame.Call path args ∷ frames)) (ms ++ c ∷ (more ++ n ∷ []))) opened =
      separated bytes (frame.Call path args ∷ frames) Bracket outer (Bracket ∷ outer) (stops-call path args frames outer) argument_mark (λ q. behind_comma) (λ r k u. refl) (λ q i. ap Some (crosses-comma q outer i)) ms c (more ++ n ∷ []) opened y
      (λ middle q. read-flat bytes is (frame.Call path args ∷ frames) (Bracket ∷ outer) (stops-call path args frames outer) [] [] [] nothing ms middle refl q)
      (subst (λ (z : List Marked). Opens (Bracket ∷ outer) z opened) apart o) in
      let a = read-arguments bytes are path (args ++ s.last ∷ []) frames outer n opened x s.further in
      record {
        t = s.last;
        ts = a.t ∷ a.ts;
        read =
            ap (λ z. read_tokens bytes (unread_in (frame.Call path args ∷ frames)) z) apart ∙ s.read ∙ a.read
            ∙ ap (λ z. let r : Reading = record { frames = frames; operand = Whole (term.Call path z) } in r) (append_assoc args (s.last ∷ []) (a.t ∷ a.ts));
        opening = a.opening;
        are = next_argument c ms more s.last a.t a.ts s.ranked.tail s.ranked.waiting y s.ranked.far a.are;
      }
