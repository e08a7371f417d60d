use Rattle.std.proofs.Common.{◌≡◌, Some, arith}
use Rattle.sm_base.specs.Names.{IsName}
use Rattle.sm_base.proofs.ReadLemmas.{clone_parts, inflate_parts, coalesce_parts, relink_parts, leaf_parts, no_entry}
use Rattle.sm_base.proofs.names.parse_entry.Goals as goal

pub returns-in_err-disk-clause-found : goal.returns-in_err-disk-clause-found
returns-in_err-disk-clause-found c = λ n is entry e.
    let p = clone_parts c.args.bytes.now c.if-starts_with.ensures.value n is e in
    let none = c.in_err-disk.ensures.found p.disk p.is_disk p.disk_text in
    cc

pub returns-in_err-base-clause-found : goal.returns-in_err-base-clause-found
returns-in_err-base-clause-found c = λ n is entry e.
    let p = clone_parts c.args.bytes.now c.if-starts_with.ensures.value n is e in
    let none = c.in_err-base.ensures.found p.base p.is_base p.base_text in
    cc

pub returns-in_err-twin-clause-found : goal.returns-in_err-twin-clause-found
returns-in_err-twin-clause-found c = λ n is entry e.
    let p = clone_parts c.args.bytes.now c.if-starts_with.ensures.value n is e in
    let none = c.in_err-twin.ensures.found p.twin p.is_twin p.twin_text in
    cc

pub returns-in_ok-twin-clause-proper : goal.returns-in_ok-twin-clause-proper
unfolding IsName
returns-in_ok-twin-clause-proper c = (c.in_ok-disk.ensures.uuid, c.in_ok-base.ensures.uuid, c.in_ok-twin.ensures.uuid)

pub returns-in_ok-twin-clause-found : goal.returns-in_ok-twin-clause-found
returns-in_ok-twin-clause-found c = λ n is entry e.
    let p = clone_parts c.args.bytes.now c.if-starts_with.ensures.value n is e in
    let found_0 = c.in_ok-disk.ensures.found p.disk p.is_disk p.disk_text in
    let found_1 = c.in_ok-base.ensures.found p.base p.is_base p.base_text in
    let found_2 = c.in_ok-twin.ensures.found p.twin p.is_twin p.twin_text in
    cc

pub returns-in_err-image-clause-found : goal.returns-in_err-image-clause-found
returns-in_err-image-clause-found c = λ n is entry e.
    let p = inflate_parts c.args.bytes.now c.if-starts_with-2.ensures.value n is e in
    let none = c.in_err-image.ensures.found p.image p.is_image p.image_text in
    cc

pub returns-in_err-extents-clause-found : goal.returns-in_err-extents-clause-found
returns-in_err-extents-clause-found c = λ n is entry e.
    let p = inflate_parts c.args.bytes.now c.if-starts_with-2.ensures.value n is e in
    let none = c.in_err-extents.ensures.found p.extents p.fits p.number_text in
    cc

pub returns-then-extents-eq0-clause-found : goal.returns-then-extents-eq0-clause-found
returns-then-extents-eq0-clause-found c = λ n is entry e.
    let p = inflate_parts c.args.bytes.now c.if-starts_with-2.ensures.value n is e in
    let found : Some c.in_ok-extents.extents ≡ Some p.extents = c.in_ok-extents.ensures.found p.extents p.fits p.number_text in
    let same : c.in_ok-extents.extents ≡ p.extents = cc in
    absurd (omega (arith, p.some))

pub returns-else-extents-eq0-clause-proper : goal.returns-else-extents-eq0-clause-proper
unfolding IsName
returns-else-extents-eq0-clause-proper c = (c.in_ok-image.ensures.uuid, omega arith, c.in_ok-extents.ensures.fits)

pub returns-else-extents-eq0-clause-found : goal.returns-else-extents-eq0-clause-found
returns-else-extents-eq0-clause-found c = λ n is entry e.
    let p = inflate_parts c.args.bytes.now c.if-starts_with-2.ensures.value n is e in
    let found_0 = c.in_ok-image.ensures.found p.image p.is_image p.image_text in
    let found_1 = c.in_ok-extents.ensures.found p.extents p.fits p.number_text in
    cc

pub returns-in_err-child-clause-found : goal.returns-in_err-child-clause-found
returns-in_err-child-clause-found c = λ n is entry e.
    let p = coalesce_parts c.args.bytes.now c.if-starts_with-3.ensures.value n is e in
    let none = c.in_err-child.ensures.found p.first p.is_first p.first_text in
    cc

pub returns-in_err-parent-clause-found : goal.returns-in_err-parent-clause-found
returns-in_err-parent-clause-found c = λ n is entry e.
    let p = coalesce_parts c.args.bytes.now c.if-starts_with-3.ensures.value n is e in
    let none = c.in_err-parent.ensures.found p.second p.is_second p.second_text in
    cc

pub returns-in_ok-parent-clause-proper : goal.returns-in_ok-parent-clause-proper
unfolding IsName
returns-in_ok-parent-clause-proper c = (c.in_ok-child.ensures.uuid, c.in_ok-parent.ensures.uuid)

pub returns-in_ok-parent-clause-found : goal.returns-in_ok-parent-clause-found
returns-in_ok-parent-clause-found c = λ n is entry e.
    let p = coalesce_parts c.args.bytes.now c.if-starts_with-3.ensures.value n is e in
    let found_0 = c.in_ok-child.ensures.found p.first p.is_first p.first_text in
    let found_1 = c.in_ok-parent.ensures.found p.second p.is_second p.second_text in
    cc

pub returns-in_err-child-2-clause-found : goal.returns-in_err-child-2-clause-found
returns-in_err-child-2-clause-found c = λ n is entry e.
    let p = relink_parts c.args.bytes.now c.if-starts_with-4.ensures.value n is e in
    let none = c.in_err-child-2.ensures.found p.first p.is_first p.first_text in
    cc

pub returns-in_err-parent-2-clause-found : goal.returns-in_err-parent-2-clause-found
returns-in_err-parent-2-clause-found c = λ n is entry e.
    let p = relink_parts c.args.bytes.now c.if-starts_with-4.ensures.value n is e in
    let none = c.in_err-parent-2.ensures.found p.second p.is_second p.second_text in
    cc

pub returns-in_ok-parent-2-clause-proper : goal.returns-in_ok-parent-2-clause-proper
unfolding IsName
returns-in_ok-parent-2-clause-proper c = (c.in_ok-child-2.ensures.uuid, c.in_ok-parent-2.ensures.uuid)

pub returns-in_ok-parent-2-clause-found : goal.returns-in_ok-parent-2-clause-found
returns-in_ok-parent-2-clause-found c = λ n is entry e.
    let p = relink_parts c.args.bytes.now c.if-starts_with-4.ensures.value n is e in
    let found_0 = c.in_ok-child-2.ensures.found p.first p.is_first p.first_text in
    let found_1 = c.in_ok-parent-2.ensures.found p.second p.is_second p.second_text in
    cc

pub returns-in_err-leaf-clause-found : goal.returns-in_err-leaf-clause-found
returns-in_err-leaf-clause-found c = λ n is entry e.
    let p = leaf_parts c.args.bytes.now c.if-starts_with-5.ensures.value n is e in
    let none = c.in_err-leaf.ensures.found p.first p.is_first p.first_text in
    cc

pub returns-in_err-parent-3-clause-found : goal.returns-in_err-parent-3-clause-found
returns-in_err-parent-3-clause-found c = λ n is entry e.
    let p = leaf_parts c.args.bytes.now c.if-starts_with-5.ensures.value n is e in
    let none = c.in_err-parent-3.ensures.found p.second p.is_second p.second_text in
    cc

pub returns-in_ok-parent-3-clause-proper : goal.returns-in_ok-parent-3-clause-proper
unfolding IsName
returns-in_ok-parent-3-clause-proper c = (c.in_ok-leaf.ensures.uuid, c.in_ok-parent-3.ensures.uuid)

pub returns-in_ok-parent-3-clause-found : goal.returns-in_ok-parent-3-clause-found
returns-in_ok-parent-3-clause-found c = λ n is entry e.
    let p = leaf_parts c.args.bytes.now c.if-starts_with-5.ensures.value n is e in
    let found_0 = c.in_ok-leaf.ensures.found p.first p.is_first p.first_text in
    let found_1 = c.in_ok-parent-3.ensures.found p.second p.is_second p.second_text in
    cc

pub returns-else-starts_with-5-clause-found : goal.returns-else-starts_with-5-clause-found
returns-else-starts_with-5-clause-found c = λ n is entry e.
    absurd (no_entry c.args.bytes.now c.if-starts_with.ensures.value c.if-starts_with-2.ensures.value c.if-starts_with-3.ensures.value c.if-starts_with-4.ensures.value c.if-starts_with-5.ensures.value n entry e)
