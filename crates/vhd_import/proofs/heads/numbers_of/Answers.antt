use Rattle.std.proofs.Common.{◌≡◌, ◌/◌, Some, sym, ap, ◌∙◌, arith}
use Rattle.std.specs.Int.{div_ceil}
use Rattle.common_laws.proofs.Options.{none_of_some}
use Rattle.sm_base.specs.Numbers.{div_up}
use Rattle.sm_base.proofs.NumberLemmas.{div_up-div_ceil}
use Rattle.vhd_fields.specs.Headers.{header_read}
use Rattle.vhd_import.proofs.HeadLaws.{block-some, header-bounds}
use Rattle.vhd_import.proofs.BeginningLaws.{numbers-are, parent-denied, short-denied, unread-denied}
use Rattle.vhd_import.proofs.heads.numbers_of.Goals as goal

pub returns-in_default-clause-denied : goal.returns-in_default-clause-denied
returns-in_default-clause-denied c = λ t file dynamic sized here. unread-denied t file c.in_default.field-0 dynamic (ap header_read here ∙ sym c.read.ensures.exact ∙ c.in_default.is)

pub returns-then-is_some-clause-denied : goal.returns-then-is_some-clause-denied
returns-then-is_some-clause-denied c = λ t file dynamic sized here.
    let reads = sym c.read.ensures.exact ∙ c.in-Ok.is in
    let some = block-some c.args.header.now c.in-Ok.header reads in
    let count : c.div_ceil-blocks.result ≡ div_up c.args.sectors (c.in-Ok.header.block / 512) = c.div_ceil-blocks.ensures ∙ ap (div_ceil c.args.sectors) c.from.ensures ∙ div_up-div_ceil c.args.sectors (c.in-Ok.header.block / 512) some in
    parent-denied t file c.args.sectors c.in-Ok.header dynamic sized (ap header_read here ∙ reads) (sym c.is_some.ensures ∙ c.if-is_some.true) (omega (arith, count, c.if-blocks-from.false, c.from-2.ensures))

pub div_ceil-blocks-requires : goal.div_ceil-blocks-requires
div_ceil-blocks-requires c = omega (arith, c.from.ensures, block-some c.args.header.now c.in-Ok.header (sym c.read.ensures.exact ∙ c.in-Ok.is))

pub returns-then-blocks-from-clause-denied : goal.returns-then-blocks-from-clause-denied
returns-then-blocks-from-clause-denied c = λ t file dynamic sized here.
    let reads = sym c.read.ensures.exact ∙ c.in-Ok.is in
    let some = block-some c.args.header.now c.in-Ok.header reads in
    let count : c.div_ceil-blocks.result ≡ div_up c.args.sectors (c.in-Ok.header.block / 512) = c.div_ceil-blocks.ensures ∙ ap (div_ceil c.args.sectors) c.from.ensures ∙ div_up-div_ceil c.args.sectors (c.in-Ok.header.block / 512) some in
    short-denied t file c.args.sectors c.in-Ok.header dynamic sized (ap header_read here ∙ reads) (omega (arith, count, c.if-blocks-from.true, c.from-2.ensures))

pub returns-clause-numbers : goal.returns-clause-numbers
returns-clause-numbers c = λ file dynamic sized here.
    let reads = sym c.read.ensures.exact ∙ c.in-Ok.is in
    let some = block-some c.args.header.now c.in-Ok.header reads in
    let count : c.div_ceil-blocks.result ≡ div_up c.args.sectors (c.in-Ok.header.block / 512) = c.div_ceil-blocks.ensures ∙ ap (div_ceil c.args.sectors) c.from.ensures ∙ div_up-div_ceil c.args.sectors (c.in-Ok.header.block / 512) some in
    numbers-are file c.args.sectors c.in-Ok.header dynamic sized (ap header_read here ∙ reads) (none_of_some c.in-Ok.header.parent (sym c.is_some.ensures ∙ c.if-is_some.false)) (omega (arith, count, c.if-blocks-from.false, c.from-2.ensures))
    ∙ ap (λ n. Some (record { table = c.in-Ok.header.table_offset / 512; entries = c.in-Ok.header.entries; block = c.in-Ok.header.block / 512; blocks = n })) (sym count)

pub returns-clause-bounds : goal.returns-clause-bounds
returns-clause-bounds c =
    let b = header-bounds c.args.header.now c.in-Ok.header (sym c.read.ensures.exact ∙ c.in-Ok.is) in
    (b.0, b.1, omega (arith, c.if-blocks-from.false, c.from-2.ensures), b.2)
