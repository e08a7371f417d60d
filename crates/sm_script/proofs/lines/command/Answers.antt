use Rattle.std.proofs.Common.{codes, ap, sym, ◌∷◌, ◌∙◌}
use Rattle.std.specs.Prelude.{option_copied}
use Rattle.sm_machine.specs.Lines.{spelled_words}
use Rattle.sm_script.specs.Cuts.{words_behind}
use Rattle.sm_script.proofs.LineLaws.{other_word, same_word, spelled_words-none}
use Rattle.sm_script.proofs.lines.command.Goals as goal

pub returns-then-eq : goal.returns-then-eq
unfolding spelled_words
returns-then-eq c = λ _.
    let verb = same_word c.args.verb.now (codes "create") c.as_slice.result.now c.if-eq.ensures c.as_slice.ensures in
    c.create.ensures ∙ ap (λ v. spelled_words (v ∷ words_behind (option_copied c.args.rest))) (sym verb)

pub returns-then-eq-2 : goal.returns-then-eq-2
unfolding spelled_words
returns-then-eq-2 c = λ _.
    let verb = same_word c.args.verb.now (codes "delete") c.as_slice-else-eq.result.now c.if-eq-2.ensures c.as_slice-else-eq.ensures in
    c.delete.ensures ∙ ap (λ v. spelled_words (v ∷ words_behind (option_copied c.args.rest))) (sym verb)

pub returns-then-eq-3 : goal.returns-then-eq-3
unfolding spelled_words
returns-then-eq-3 c = λ _.
    let verb = same_word c.args.verb.now (codes "attach") c.as_slice-else-eq-2.result.now c.if-eq-3.ensures c.as_slice-else-eq-2.ensures in
    c.attach.ensures ∙ ap (λ v. spelled_words (v ∷ words_behind (option_copied c.args.rest))) (sym verb)

pub returns-then-eq-4 : goal.returns-then-eq-4
unfolding spelled_words
returns-then-eq-4 c = λ _.
    let verb = same_word c.args.verb.now (codes "detach") c.as_slice-else-eq-3.result.now c.if-eq-4.ensures c.as_slice-else-eq-3.ensures in
    c.detach.ensures ∙ ap (λ v. spelled_words (v ∷ words_behind (option_copied c.args.rest))) (sym verb)

pub returns-then-eq-5 : goal.returns-then-eq-5
unfolding spelled_words
returns-then-eq-5 c = λ _.
    let verb = same_word c.args.verb.now (codes "snapshot") c.as_slice-else-eq-4.result.now c.if-eq-5.ensures c.as_slice-else-eq-4.ensures in
    c.snapshot.ensures ∙ ap (λ v. spelled_words (v ∷ words_behind (option_copied c.args.rest))) (sym verb)

pub returns-then-eq-6 : goal.returns-then-eq-6
unfolding spelled_words
returns-then-eq-6 c = λ _.
    let verb = same_word c.args.verb.now (codes "clone") c.as_slice-else-eq-5.result.now c.if-eq-6.ensures c.as_slice-else-eq-5.ensures in
    c.copy.ensures ∙ ap (λ v. spelled_words (v ∷ words_behind (option_copied c.args.rest))) (sym verb)

pub returns-then-eq-7 : goal.returns-then-eq-7
unfolding spelled_words
returns-then-eq-7 c = λ _.
    let verb = same_word c.args.verb.now (codes "resize") c.as_slice-else-eq-6.result.now c.if-eq-7.ensures c.as_slice-else-eq-6.ensures in
    c.resize.ensures ∙ ap (λ v. spelled_words (v ∷ words_behind (option_copied c.args.rest))) (sym verb)

pub returns-then-eq-8 : goal.returns-then-eq-8
unfolding spelled_words
returns-then-eq-8 c = λ _.
    let verb = same_word c.args.verb.now (codes "label") c.as_slice-else-eq-7.result.now c.if-eq-8.ensures c.as_slice-else-eq-7.ensures in
    c.label.ensures ∙ ap (λ v. spelled_words (v ∷ words_behind (option_copied c.args.rest))) (sym verb)

pub returns-then-eq-9 : goal.returns-then-eq-9
unfolding spelled_words
returns-then-eq-9 c = λ _.
    let verb = same_word c.args.verb.now (codes "fill") c.as_slice-else-eq-8.result.now c.if-eq-9.ensures c.as_slice-else-eq-8.ensures in
    c.fill.ensures ∙ ap (λ v. spelled_words (v ∷ words_behind (option_copied c.args.rest))) (sym verb)

pub returns-then-eq-10 : goal.returns-then-eq-10
unfolding spelled_words
returns-then-eq-10 c = λ _.
    let verb = same_word c.args.verb.now (codes "read") c.as_slice-else-eq-9.result.now c.if-eq-10.ensures c.as_slice-else-eq-9.ensures in
    c.read.ensures ∙ ap (λ v. spelled_words (v ∷ words_behind (option_copied c.args.rest))) (sym verb)

pub returns-then-eq-11 : goal.returns-then-eq-11
unfolding spelled_words
returns-then-eq-11 c = λ _.
    let verb = same_word c.args.verb.now (codes "flush") c.as_slice-else-eq-10.result.now c.if-eq-11.ensures c.as_slice-else-eq-10.ensures in
    c.flush.ensures ∙ ap (λ v. spelled_words (v ∷ words_behind (option_copied c.args.rest))) (sym verb)

pub returns-then-eq-12 : goal.returns-then-eq-12
unfolding spelled_words
returns-then-eq-12 c = λ _.
    let verb = same_word c.args.verb.now (codes "gc") c.as_slice-else-eq-11.result.now c.if-eq-12.ensures c.as_slice-else-eq-11.ensures in
    c.lone.ensures ∙ ap (λ v. spelled_words (v ∷ words_behind (option_copied c.args.rest))) (sym verb)

pub returns-then-eq-13 : goal.returns-then-eq-13
unfolding spelled_words
returns-then-eq-13 c = λ _.
    let verb = same_word c.args.verb.now (codes "list") c.as_slice-else-eq-12.result.now c.if-eq-13.ensures c.as_slice-else-eq-12.ensures in
    c.lone-then-eq-13.ensures ∙ ap (λ v. spelled_words (v ∷ words_behind (option_copied c.args.rest))) (sym verb)

pub returns-then-eq-14 : goal.returns-then-eq-14
unfolding spelled_words
returns-then-eq-14 c = λ _.
    let verb = same_word c.args.verb.now (codes "stat") c.as_slice-else-eq-13.result.now c.if-eq-14.ensures c.as_slice-else-eq-13.ensures in
    c.lone-then-eq-14.ensures ∙ ap (λ v. spelled_words (v ∷ words_behind (option_copied c.args.rest))) (sym verb)

pub returns-then-eq-15 : goal.returns-then-eq-15
unfolding spelled_words
returns-then-eq-15 c = λ _.
    let verb = same_word c.args.verb.now (codes "cbt") c.as_slice-else-eq-14.result.now c.if-eq-15.ensures c.as_slice-else-eq-14.ensures in
    c.track.ensures ∙ ap (λ v. spelled_words (v ∷ words_behind (option_copied c.args.rest))) (sym verb)

pub returns-then-eq-16 : goal.returns-then-eq-16
unfolding spelled_words
returns-then-eq-16 c = λ _.
    let verb = same_word c.args.verb.now (codes "changed") c.as_slice-else-eq-15.result.now c.if-eq-16.ensures c.as_slice-else-eq-15.ensures in
    c.changed.ensures ∙ ap (λ v. spelled_words (v ∷ words_behind (option_copied c.args.rest))) (sym verb)

pub returns-else-eq-16 : goal.returns-else-eq-16
returns-else-eq-16 c = λ write.
    let verb = c.args.verb.now in
    spelled_words-none verb (words_behind (option_copied c.args.rest)) write
    (other_word verb (codes "create") _ c.if-eq.ensures c.as_slice.ensures)
    (other_word verb (codes "delete") _ c.if-eq-2.ensures c.as_slice-else-eq.ensures)
    (other_word verb (codes "attach") _ c.if-eq-3.ensures c.as_slice-else-eq-2.ensures)
    (other_word verb (codes "detach") _ c.if-eq-4.ensures c.as_slice-else-eq-3.ensures)
    (other_word verb (codes "snapshot") _ c.if-eq-5.ensures c.as_slice-else-eq-4.ensures)
    (other_word verb (codes "clone") _ c.if-eq-6.ensures c.as_slice-else-eq-5.ensures)
    (other_word verb (codes "resize") _ c.if-eq-7.ensures c.as_slice-else-eq-6.ensures)
    (other_word verb (codes "label") _ c.if-eq-8.ensures c.as_slice-else-eq-7.ensures)
    (other_word verb (codes "fill") _ c.if-eq-9.ensures c.as_slice-else-eq-8.ensures)
    (other_word verb (codes "read") _ c.if-eq-10.ensures c.as_slice-else-eq-9.ensures)
    (other_word verb (codes "flush") _ c.if-eq-11.ensures c.as_slice-else-eq-10.ensures)
    (other_word verb (codes "gc") _ c.if-eq-12.ensures c.as_slice-else-eq-11.ensures)
    (other_word verb (codes "list") _ c.if-eq-13.ensures c.as_slice-else-eq-12.ensures)
    (other_word verb (codes "stat") _ c.if-eq-14.ensures c.as_slice-else-eq-13.ensures)
    (other_word verb (codes "cbt") _ c.if-eq-15.ensures c.as_slice-else-eq-14.ensures)
    (other_word verb (codes "changed") _ c.if-eq-16.ensures c.as_slice-else-eq-15.ensures)
