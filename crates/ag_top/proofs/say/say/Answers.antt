use Rattle.std.proofs.Common.{◌≡◌, ◌∙◌, ◌-◌, ◌≤◌, length, take, drop, arith, subst, take_all, length-drop, take-add}
use Rattle.ag_top.specs.Commands.{Grows}
use Rattle.ag_top.proofs.Serving.{grow_more}
use Rattle.ag_top.proofs.say.say.Goals as goal

pub loop-at-preserved : goal.loop-at-preserved
loop-at-preserved g c =
    let at = c.loop-at.at in
    let text = c.args.text.now in
    let n = c.in_ok-at.field-0 in
    let v = c.loop-at.invariant in
    let rest : take (length text - at) (drop at text) ≡ drop at text = take_all (length text - at) (drop at text) (let l = length-drop at text in omega (arith, l)) in
    let few = subst (λ xs. n ≤ length xs) rest c.in_ok-at.ensures.count in
    record {
      within = let w = v.within in let l = length-drop at text in omega (arith, w, l, few);
      written = rw (take-add at n text) (grow_more (g.K.Sink.written c.args.sink.now) (g.K.Sink.written c.loop-at.sink) (g.K.Sink.written c.write.new.self) (take at text) (take n (drop at text)) v.written (subst (λ xs. Grows (g.K.Sink.written c.loop-at.sink) (g.K.Sink.written c.write.new.self) (take n xs)) rest c.in_ok-at.ensures.bytes));
      unfaulted = c.in_ok-at.ensures.unfaulted ∙ v.unfaulted;
    }
