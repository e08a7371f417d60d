use Rattle.std.proofs.Common.{codes, sym, ◌∙◌}
use Rattle.std.specs.Prelude.{option_copied}
use Rattle.sm_script.specs.Cuts.{behind, words_behind}
use Rattle.sm_script.proofs.LineLaws.{behind_within, other_word, same_word, spelled-long, spelled-short, spelled_words-write}
use Rattle.sm_script.proofs.lines.Line.read.Goals as goal

pub returns-then-line-gt-LINE_LIMIT : goal.returns-then-line-gt-LINE_LIMIT
returns-then-line-gt-LINE_LIMIT c = c.beside.ensures ∙ sym (spelled-long c.args.line.now c.if-line-gt-LINE_LIMIT.true)

pub write-requires : goal.write-requires
write-requires c =
    behind_within c.args.line.now c.first_word.result.0.now (behind (option_copied c.first_word.result.1)) c.first_word.ensures.bytes c.if-line-gt-LINE_LIMIT.false

pub returns-then-eq : goal.returns-then-eq
returns-then-eq c =
    let line = c.args.line.now in
    let verb = c.first_word.result.0.now in
    let words = words_behind (option_copied c.first_word.result.1) in
    let spells = spelled-short line verb words c.if-line-gt-LINE_LIMIT.false c.first_word.ensures.words in
    let write = same_word verb (codes "write") c.as_slice.result.now c.if-eq.ensures c.as_slice.ensures in
    c.write.ensures ∙ spelled_words-write verb words write ∙ spells

pub returns : goal.returns
returns c =
    let line = c.args.line.now in
    let verb = c.first_word.result.0.now in
    let words = words_behind (option_copied c.first_word.result.1) in
    let spells = spelled-short line verb words c.if-line-gt-LINE_LIMIT.false c.first_word.ensures.words in
    let other = other_word verb (codes "write") c.as_slice.result.now c.if-eq.ensures c.as_slice.ensures in
    c.beside-2.ensures ∙ c.command.ensures other ∙ spells
