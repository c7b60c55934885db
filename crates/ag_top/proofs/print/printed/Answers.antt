use Rattle.std.proofs.Common.{List, subst, inl, inr}
use Rattle.std.proofs.lemmas.Result.{err_from_is_err_and}
use Rattle.ag_lex.specs.declared.token.Token.{Token}
use Rattle.ag_aadl.specs.Files.{IsFile, IsFirstWrong}
use Rattle.ag_aadl.specs.declared.packages.Package.{Package}
use Rattle.ag_print.specs.Annexes.{IsAnnexRefused}
use Rattle.ag_top.proofs.print.printed.Goals as goal

pub returns-in_err-packages-clause-refused : goal.returns-in_err-packages-clause-refused
returns-in_err-packages-clause-refused c = λ r e.
    let told = err_from_is_err_and c.from_residual-in_err-packages.result c.from_residual-in_err-packages.ensures.1 in
    inr (inl record {
      tokens = c.in_ok-tokens.tokens;
      kept = c.in_ok-tokens.ensures.ok;
      wrong = subst (λ (tokens : List Token). IsFirstWrong c.args.text.now tokens r) c.as_slice.ensures (c.in_err-packages.ensures.refused r (let is = told.1 in let same = told.2 in cc));
    })

pub returns-clause-refused : goal.returns-clause-refused
returns-clause-refused c = λ r e.
    inr (inr record {
      packages = c.in_ok-packages.packages;
      declared = record {
        tokens = c.in_ok-tokens.tokens;
        kept = c.in_ok-tokens.ensures.ok;
        file = subst (λ (tokens : List Token). IsFile c.args.text.now tokens c.in_ok-packages.packages) c.as_slice.ensures c.in_ok-packages.ensures.ok;
      };
      refused = subst (λ (packages : List Package). IsAnnexRefused c.args.text.now packages r) c.as_slice-2.ensures (c.print_file.ensures.refused r e);
    })
