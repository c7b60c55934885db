use Rattle.std.proofs.Common.{sym, subst, ℕ, List}
use Rattle.ag_top.specs.Words.{NamesFile}
use Rattle.ag_top.proofs.Tops.{rest_is}
use Rattle.ag_top.proofs.words.order_of.Goals as goal

pub returns-in-None-file_of : goal.returns-in-None-file_of
returns-in-None-file_of c = record {
  asks = λ h.
      c.in-None-file_of.ensures.named h.1 (subst (λ (rest : List (List ℕ)). NamesFile rest h.1) (sym (rest_is _ _ _ h.2.command)) h.2.file);
}
