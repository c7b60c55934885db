use Rattle.ag_print.proofs.Printing.{printed-reads}
use Rattle.ag_print.proofs.print.print_file.Goals as goal

pub print_packages-requires-clause-among : goal.print_packages-requires-clause-among
print_packages-requires-clause-among c =
    let read = c.requires.read in
    c.files_are_printable.ensures.annexes read.file c.args.bytes.now read.tokens c.args.packages.now read.kept read.read

pub print_packages-requires-clause-text : goal.print_packages-requires-clause-text
print_packages-requires-clause-text c = c.files_are_text.ensures c.args.bytes.now c.requires.read.kept.kept

pub returns-clause-ok : goal.returns-clause-ok
returns-clause-ok c =
    let read = c.requires.read in
    let bytes = c.args.bytes.now in
    let packages = c.args.packages.now in
    let printable = c.files_are_printable.ensures.packages read.file bytes read.tokens packages read.kept read.read in
    printed-reads bytes packages c.print_packages.result c.print_packages.ensures.text
    (λ stated. c.files_are_printable.ensures.stated read.file bytes read.tokens packages stated read.kept read.read)
    (λ file stated. c.canonical_rereads.ensures file packages stated printable)
    (λ file stated. c.annexes_reread.ensures.read file packages stated printable)
