-- In any text the words of clauses break no rule, and state the clauses.
use Rattle.std.proofs.Common.{◌≡◌, ℕ, List, [], sym, subst}
use Rattle.ag_grammar.specs.declared.grammar.Step.{Step}
use Rattle.ag_grammar.specs.Texts.{marks_of}
use Rattle.ag_lex.specs.declared.token.Token.{Token}
use Rattle.ag_aadl.specs.declared.marked.Marked.{Marked}
use Rattle.ag_aadl.specs.Marked.{marked}
use Rattle.ag_terms.specs.declared.clauses.Clause.{Clause}
use Rattle.ag_terms.specs.declared.clauses.Site.{Site}
use Rattle.ag_annex.specs.Words.{terminals_of}
use Rattle.ag_unparse.specs.Depth.{AreShallow}
use Rattle.ag_unparse.specs.Rereading.{MayBePrinted, AreWithin, State}
use Rattle.ag_unparse.specs.Spelling.{StandAs, clauses_words, marks_of_words}
use Rattle.ag_unparse.proofs.MeaningPlaced.{marked_placed}
use Rattle.ag_unparse.proofs.MeaningClauses.{clauses_told}
use Rattle.ag_unparse.proofs.MeaningSites.{clauses_run}

pub states : (site : Site) (clauses : List Clause) → MayBePrinted site clauses → AreShallow clauses → (bytes : List ℕ) (tokens : List Token) (steps : List Step) → StandAs bytes tokens (clauses_words clauses) → AreWithin bytes tokens
    → marks_of steps ≡ marks_of_words (clauses_words clauses) → State bytes site (marked (terminals_of bytes tokens) tokens steps) clauses
states site clauses may shallow bytes tokens steps stands fits marks =
    subst (λ (ms : List Marked). State bytes site ms clauses) (sym (marked_placed bytes steps (clauses_words clauses) tokens stands marks))
    (([], clauses_run site bytes clauses may.placed shallow tokens stands), clauses_told bytes clauses may.printable tokens stands fits)
