-- The words of packages read back as the same packages.
use Rattle.std.proofs.Common.{◌≡◌, ℕ, List, [], ◌∷◌, map, refl, sym, ap, subst, ◌∙◌}
use Rattle.std.specs.Prelude.{IsTrue}
use Rattle.std.specs.List.{flat_map, list_all}
use Rattle.ag_grammar.specs.declared.grammar.Step.{Step}
use Rattle.ag_grammar.specs.declared.grammar.Step.TheVariants.{Expand, Shift}
use Rattle.ag_lex.specs.declared.token.Language.{Language}
use Rattle.ag_lex.specs.declared.token.Language.TheVariants.{Aadl}
use Rattle.ag_lex.specs.declared.token.Token.{Token}
use Rattle.ag_lex.specs.Tokens.{AreTokens}
use Rattle.ag_aadl.specs.declared.marked.Marked.{Marked}
use Rattle.ag_aadl.specs.declared.packages.Package.{Package}
use Rattle.ag_aadl.specs.Files.{IsFile}
use Rattle.ag_aadl.specs.Marked.{marked}
use Rattle.ag_aadl.specs.Meaning.{packages_of}
use Rattle.ag_aadl.specs.Rules.{start}
use Rattle.ag_aadl.specs.Words.{terminal_of, terminals_of}
use Rattle.ag_print.specs.Annexes.{Stated}
use Rattle.ag_print.specs.Canonical.{Spelled, canonical_text}
use Rattle.ag_print.specs.Layout.{Word, word_at}
use Rattle.ag_print.specs.Printable.{are_printable, StatedMayBePrinted}
use Rattle.ag_print.specs.Rereading.{StandAs, Declare, IsReread}
use Rattle.ag_print.specs.Same.{bare_package, SamePackages}
use Rattle.ag_grammar.specs.Texts.{marks_of}
use Rattle.ag_print.specs.Spelling.{canonical_words, marks_of_words, IsReadCanonical}
use Rattle.ag_print.proofs.RereadingSeen.{Seen, seen_of, packages_in, packages_seen, two}
use Rattle.ag_print.proofs.RereadingLines.{seen, paired, package_words, flat_packages}
use Rattle.ag_print.proofs.RereadingAgain.{OneClausesText, heads, tails, same_text}
use Rattle.ag_print.proofs.RereadingAnnexes.{package_texts, expected_texts, found_texts, same_annexed}
use Rattle.ag_print.proofs.RereadingBack.{packages_back}
use Rattle.ag_print.proofs.RereadingPrintable.{same_printable}
use Rattle.ag_print.proofs.RereadingRules.{told, names_hold, sections_hold, is_quiet, obeys}
use Rattle.ag_print.proofs.RereadingKept.{names_kept, sections_kept, timing_kept}

-- each token with the mark of its word
abbrev pub marked_words : List Token → List Spelled → List Marked
marked_words (t ∷ ts) (w ∷ ws) = record { mark = w.mark; terminal = terminal_of w.word.kind w.word.own; token = t } ∷ marked_words ts ws
marked_words _ _ = []

-- what is seen of the tokens is what the words are
words_seen : (bytes : List ℕ) (tokens : List Token) (ws : List Spelled) → StandAs bytes tokens ws → map (seen_of bytes) (marked_words tokens ws) ≡ map seen ws
words_seen bytes [] [] e = refl
words_seen bytes [] (w ∷ ws) e = absurd cc
words_seen bytes (t ∷ ts) [] e = absurd cc
words_seen bytes (t ∷ ts) (w ∷ ws) e =
    let one : word_at bytes t ≡ w.word = heads e in
    two (λ (z : Word) (zs : List Seen). record { mark = w.mark; terminal = terminal_of w.word.kind w.word.own; text = z.own } ∷ zs) one (words_seen bytes ts ws (tails e))

-- a derivation under the words' marks marks the tokens so
pub marked_so : (bytes : List ℕ) (steps : List Step) (tokens : List Token) (ws : List Spelled) → StandAs bytes tokens ws → marks_of steps ≡ marks_of_words ws
    → marked (terminals_of bytes tokens) tokens steps ≡ marked_words tokens ws
marked_so bytes [] [] [] e m = refl
marked_so bytes [] (t ∷ ts) [] e m = absurd cc
marked_so bytes [] tokens (w ∷ ws) e m = absurd cc
marked_so bytes (Expand name ∷ steps) tokens ws e m = marked_so bytes steps tokens ws e m
marked_so bytes (Shift mark ∷ steps) [] [] e m = absurd cc
marked_so bytes (Shift mark ∷ steps) (t ∷ ts) [] e m = absurd cc
marked_so bytes (Shift mark ∷ steps) [] (w ∷ ws) e m = absurd cc
marked_so bytes (Shift mark ∷ steps) (t ∷ ts) (w ∷ ws) e m =
    let one : word_at bytes t ≡ w.word = heads e in
    let same_mark : mark ≡ w.mark = heads m in
    two (λ (z : ℕ × Word) (zs : List Marked). record { mark = z.0; terminal = terminal_of z.1.kind z.1.own; token = t } ∷ zs) (two (λ (k : ℕ) (v : Word). (k, v)) same_mark one)
    (marked_so bytes steps ts ws (tails e) (tails m))

-- the tokens that the words of packages stand as break no rule, and declare the same packages
words_declare : (packages : List Package) (stated : Stated) (bytes : List ℕ) (tokens : List Token) → StandAs bytes tokens (canonical_words packages stated)
    → Declare bytes (marked_words tokens (canonical_words packages stated)) packages
words_declare ps stated bytes tokens e =
    let ms = marked_words tokens (canonical_words ps stated) in
    let qs = paired ps stated in
    let are : map (seen_of bytes) ms ≡ map seen (flat_map package_words qs) = words_seen bytes tokens (canonical_words ps stated) e ∙ ap (map seen) (flat_packages ps stated) in (
      obeys bytes ms start (ap (names_hold (told bytes start.names)) are ∙ names_kept qs (told bytes start.names)) (ap (sections_hold []) are ∙ sections_kept qs []) refl
          (ap (list_all is_quiet) are ∙ timing_kept qs),
      packages_seen bytes ms ∙ ap packages_in are ∙ packages_back ps stated,
    )

-- so do those that a derivation marks
pub rereads : (packages : List Package) (stated : Stated) (bytes : List ℕ) (tokens : List Token) (steps : List Step) → StandAs bytes tokens (canonical_words packages stated)
    → marks_of steps ≡ marks_of_words (canonical_words packages stated) → Declare bytes (marked (terminals_of bytes tokens) tokens steps) packages
rereads ps stated bytes tokens steps e m =
    subst (λ (z : List Marked). Declare bytes z ps) (sym (marked_so bytes steps tokens (canonical_words ps stated) e m)) (words_declare ps stated bytes tokens e)

-- what the law of spelling says
abbrev pub CanonicalSpells : Type 0
CanonicalSpells = (file : ℕ) (packages : List Package) (stated : Stated) → IsTrue (are_printable packages) → StatedMayBePrinted packages stated
    → (tokens : List Token) × (steps : List Step) × IsReadCanonical file packages stated tokens steps

-- the canonical text read again, and the texts of its annexes
pub record ReadAgain (file : ℕ) (packages : List Package) (stated : Stated) : Type 0 where
  pub tokens : List Token
  pub found : List Package
  pub reread : IsReread file packages stated tokens found
  pub texts : map (package_texts (canonical_text packages stated)) found ≡ map expected_texts (paired packages stated)

-- the canonical text of printable packages is a file that declares the same ones
pub read_again : OneClausesText → CanonicalSpells → (file : ℕ) (packages : List Package) (stated : Stated) → IsTrue (are_printable packages) → StatedMayBePrinted packages stated → ReadAgain file packages stated
read_again one spells file ps stated h may =
    let read = spells file ps stated h may in
    let bytes = canonical_text ps stated in
    let ms = marked (terminals_of bytes read.0) read.0 read.1 in
    let declare = rereads ps stated bytes read.0 read.1 read.2.words read.2.marks in
    let are : map (seen_of bytes) ms ≡ map seen (flat_map package_words (paired ps stated)) =
    ap (map (seen_of bytes)) (marked_so bytes read.1 read.0 (canonical_words ps stated) read.2.words read.2.marks)
    ∙ words_seen bytes read.0 (canonical_words ps stated) read.2.words ∙ ap (map seen) (flat_packages ps stated) in
    let found = packages_of bytes ms in
    let texts = found_texts bytes ms ps stated are in
    record {
      tokens = read.0;
      found = found;
      reread = record {
        kept = read.2.kept;
        read = record { steps = read.1; text = read.2.text; obeyed = declare.0; told = refl };
        same = declare.1;
        printable = same_printable found ps h declare.1;
        again = λ others same. same_text one found ps others stated declare.1 (same_annexed bytes found ps stated texts) same;
      };
      texts = texts;
    }

pub text_rereads : OneClausesText → CanonicalSpells → (file : ℕ) (packages : List Package) (stated : Stated) → IsTrue (are_printable packages) → StatedMayBePrinted packages stated
    → (tokens : List Token) × (found : List Package) × IsReread file packages stated tokens found
text_rereads one spells file ps stated h may = let again = read_again one spells file ps stated h may in (again.tokens, again.found, again.reread)

-- ---- one text, one list of packages

abbrev pub CanonicalRereads : Type 0
CanonicalRereads = (file : ℕ) (packages : List Package) (stated : Stated) → IsTrue (are_printable packages) → StatedMayBePrinted packages stated
    → (tokens : List Token) × (found : List Package) × IsReread file packages stated tokens found

-- what the laws of reading say
abbrev pub OneTokens : Type 0
OneTokens = (l : Language) (file : ℕ) (before text : List ℕ) (tokens others : List Token) → AreTokens l file before text tokens → AreTokens l file before text others → tokens ≡ others

abbrev pub OneFile : Type 0
OneFile = (bytes : List ℕ) (tokens : List Token) (packages others : List Package) → IsFile bytes tokens packages → IsFile bytes tokens others → packages ≡ others

pub same_packages : CanonicalRereads → OneTokens → OneFile → (packages others : List Package) (stated also : Stated) → IsTrue (are_printable packages) → IsTrue (are_printable others)
    → StatedMayBePrinted packages stated → StatedMayBePrinted others also → canonical_text packages stated ≡ canonical_text others also → SamePackages packages others
same_packages rereads one_tokens one_file ps qs s t h k may might e =
    let first = rereads 0 ps s h may in
    let second = rereads 0 qs t k might in
    let text = canonical_text ps s in
    let kept : AreTokens Aadl 0 [] text second.0 = subst (λ (z : List ℕ). AreTokens Aadl 0 [] z second.0) (sym e) second.2.kept.read in
    let read : IsFile text second.0 second.1 = subst (λ (z : List ℕ). IsFile z second.0 second.1) (sym e) second.2.read in
    let tokens : second.0 ≡ first.0 = one_tokens Aadl 0 [] text second.0 first.0 kept first.2.kept.read in
    let found : first.1 ≡ second.1 = one_file text first.0 first.1 second.1 first.2.read (subst (λ (z : List Token). IsFile text z second.1) tokens read) in
    sym first.2.same ∙ ap (map bare_package) found ∙ second.2.same
