use Rattle.std.proofs.Common.{subst, sym, ap, ◌∙◌, take}
use Rattle.std.specs.Str.{IsAscii}
use Rattle.ag_small.specs.Characters.{is_word_byte}
use Rattle.ag_small.proofs.Bytes.{ascii_front, ascii_word}
use Rattle.ag_small.proofs.reading.name.Goals as goal

pub text_of-requires : goal.text_of-requires
text_of-requires c =
    let here = c.after_space-here.result.now in
    subst IsAscii (sym (c.split_at.ensures.front ∙ ap (λ n. take n here) c.front_len.ensures.value)) (ascii_front is_word_byte here ascii_word)
