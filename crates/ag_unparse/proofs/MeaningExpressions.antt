-- The words of an expression are read as it, but for places.
use Rattle.std.proofs.Common.{◌≡◌, ◌≤◌, ◌<◌, ℕ, Bool, true, false, ◌&&◌, List, [], ◌∷◌, refl, ap, ◌∙◌, leb-true, arith}
use Rattle.std.specs.Prelude.{ℤ, pos, negsuc, nat_le, ◌^◌}
use Rattle.std.proofs.lemmas.Bool.{and_parts}
use Rattle.ag_lex.specs.Rules.{decimal}
use Rattle.ag_aadl.specs.Marked.{own}
use Rattle.ag_annex.specs.declared.frames.Operand.TheVariants.{Whole}
use Rattle.ag_terms.specs.declared.terms.Term.{Term, Number, Truth, Named, Unary', Binary', Choice', Call', Row_of-Term, end_of-Term, more_of-Term}
use Rattle.ag_terms.specs.declared.terms.Unary.TheVariants as unary
use Rattle.ag_unparse.specs.Canonical.{number_word, truth_word, path_words, term_words, argument_words}
use Rattle.ag_unparse.specs.Printable.{is_literal, is_plain_path, is_printable_term, are_printable_terms}
use Rattle.ag_unparse.specs.Same.{bare_term, bare_terms, bare_path, nowhere}
use Rattle.ag_unparse.proofs.MeaningReads.{Reads, ReadsMore, ReadsAll, comma_word, named_reads, negative_reads, not_reads, pre_reads, binary_reads, choice_reads, none_more, one_more, none_at_all, some_arguments, call_reads}
use Rattle.ag_unparse.proofs.MeaningNames.{path_reads, digits_back}

-- ---- literals

literal_small : (n : ℕ) → nat_le n (2 ^ 47) ≡ true → n < 2 ^ 64
literal_small n h =
    let least : n ≤ 2 ^ 47 = leb-true n (2 ^ 47) h in
    omega arith

number_reads : (bytes : List ℕ) (value : ℤ) → is_literal value ≡ true → Reads bytes (number_word value ∷ []) (Number value nowhere)
number_reads bytes (negsuc n) h ts s = absurd cc
number_reads bytes (pos n) h [] s = absurd s
number_reads bytes (pos n) h (t ∷ []) s = record {
  operand = Whole (Number (pos (decimal (own bytes t))) t.place);
  known = record { counts = λ args u. refl; same = ap (λ (z : List ℕ). Number (pos (decimal z)) nowhere) s.1 ∙ ap (λ (z : ℕ). Number (pos z) nowhere) (digits_back n (literal_small n h)) };
  read = λ frames. refl;
}
number_reads bytes (pos n) h (t ∷ u ∷ ts) s = absurd s.2

truth_reads : (bytes : List ℕ) (value : Bool) → Reads bytes (truth_word value ∷ []) (Truth value nowhere)
truth_reads bytes value [] s = absurd s
truth_reads bytes true (t ∷ []) s = record { operand = Whole (Truth true t.place); known = record { counts = λ args u. refl; same = refl }; read = λ frames. refl }
truth_reads bytes false (t ∷ []) s = record { operand = Whole (Truth false t.place); known = record { counts = λ args u. refl; same = refl }; read = λ frames. refl }
truth_reads bytes value (t ∷ u ∷ ts) s = absurd s.2

-- ---- expressions

mutual
  pub term_reads : (bytes : List ℕ) (t : Term) → is_printable_term t ≡ true → Reads bytes (term_words t) (bare_term t)
  term_reads bytes (Number value place) h = number_reads bytes value h
  term_reads bytes (Truth value place) h = truth_reads bytes value
  term_reads bytes (Named path) h = named_reads bytes (path_words path) (bare_path path) (path_reads bytes path)
  term_reads bytes (Unary' unary.Minus place _ (more_of-Term t end_of-Term)) h = negative_reads bytes (term_words t) (bare_term t) (term_reads bytes t h)
  term_reads bytes (Unary' unary.Not place _ (more_of-Term t end_of-Term)) h = not_reads bytes (term_words t) (bare_term t) (term_reads bytes t h)
  term_reads bytes (Unary' unary.Pre place _ (more_of-Term t end_of-Term)) h = pre_reads bytes (term_words t) (bare_term t) (term_reads bytes t h)
  term_reads bytes (Binary' op place _ (more_of-Term left end_of-Term) _ (more_of-Term right end_of-Term)) h =
      let parts = and_parts (is_printable_term left) (is_printable_term right) h in
      binary_reads bytes op (term_words left) (term_words right) (bare_term left) (bare_term right) (term_reads bytes left parts.0) (term_reads bytes right parts.1)
  term_reads bytes (Choice' place _ (more_of-Term test end_of-Term) _ (more_of-Term chosen end_of-Term) _ (more_of-Term other end_of-Term)) h =
      let parts = and_parts (is_printable_term test) (is_printable_term chosen && is_printable_term other) h in
      let more = and_parts (is_printable_term chosen) (is_printable_term other) parts.1 in
      choice_reads bytes (term_words test) (term_words chosen) (term_words other) (bare_term test) (bare_term chosen) (bare_term other)
      (term_reads bytes test parts.0) (term_reads bytes chosen more.0) (term_reads bytes other more.1)
  term_reads bytes (Call' path _ args) h =
      call_reads bytes (path_words path) (argument_words [] args) (bare_path path) (bare_terms args) (path_reads bytes path) (all_read bytes args (and_parts (is_plain_path path) (are_printable_terms args) h).1)

  all_read : (bytes : List ℕ) {m : _} (row : Row_of-Term m) → are_printable_terms row ≡ true → ReadsAll bytes (argument_words [] row) (bare_terms row)
  all_read bytes end_of-Term h = none_at_all bytes
  all_read bytes (more_of-Term t rest) h =
      let parts = and_parts (is_printable_term t) (are_printable_terms rest) h in
      some_arguments bytes (term_words t) (argument_words (comma_word ∷ []) rest) (bare_term t) (bare_terms rest) (term_reads bytes t parts.0) (more_read bytes rest parts.1)

  more_read : (bytes : List ℕ) {m : _} (row : Row_of-Term m) → are_printable_terms row ≡ true → ReadsMore bytes (argument_words (comma_word ∷ []) row) (bare_terms row)
  more_read bytes end_of-Term h = none_more bytes
  more_read bytes (more_of-Term t rest) h =
      let parts = and_parts (is_printable_term t) (are_printable_terms rest) h in
      one_more bytes (term_words t) (argument_words (comma_word ∷ []) rest) (bare_term t) (bare_terms rest) (term_reads bytes t parts.0) (more_read bytes rest parts.1)
