use Rattle.std.proofs.Common.{◌≡◌, ℕ, ◌*◌, ◌≤◌, true, length, Err, sym, ap, subst, arith, rules}
use Rattle.std.proofs.Math.Nat.{mul-le-mul_right}
use Rattle.vg_meta.specs.Tables.{Row}
use Rattle.vg_meta.specs.Roomy.{table_alone}
use Rattle.vg_volumes.specs.Stored.{sectors_in, stored}
use Rattle.sm_machine.specs.WellFormed.{is_image_name}
use Rattle.sm_standing.specs.Entries.{making}
use Rattle.sm_checks.specs.Loaded.{FailsAt, IsFilledImage, IsRow, as_read, stored_read}
use Rattle.sm_checks.proofs.EntryLaws.{staged_open}
use Rattle.sm_checks.proofs.OpeningLaws.{if_err}
use Rattle.sm_checks.proofs.ReadLaws.{many, many_is, row_fails, row_few, row_in, row_is, row_read, row_size, row_some}
use Rattle.sm_checks.proofs.TableLaws.{read_some, read_within}
use Rattle.sm_checks.proofs.loading.row_at.Goals as goal

pub overflow_cast-extents : goal.overflow_cast-extents
overflow_cast-extents g c =
    let few = row_few (g.S.Store.table c.args.store.now) c.requires.checked c.table.ensures.table c.volumes.ensures.volumes c.requires.within c.index-volumes-index.is in
    omega (arith, few, ap length c.extents.ensures.extents)

pub image_in-requires-clause-image : goal.image_in-requires-clause-image
image_in-requires-clause-image g c =
    let image : is_image_name c.index-volumes-index.result.row.name ≡ true = search rules in
    subst (λ n. is_image_name n ≡ true) (sym c.name-name.ensures.name) image

pub image_in-requires-clause-some : goal.image_in-requires-clause-some
image_in-requires-clause-some g c =
    let k = g.S.Store.table c.args.store.now in
    let r = c.index-volumes-index.result.row in
    let image : is_image_name r.name ≡ true = search rules in
    let some = row_some k c.requires.checked c.table.ensures.table c.volumes.ensures.volumes c.requires.within c.index-volumes-index.is image in
    let there = row_in k c.requires.checked c.table.ensures.table c.volumes.ensures.volumes c.requires.within c.index-volumes-index.is in
    let is : c.extents_read-extents.result ≡ many g.S.Store c.args.store.now r c.requires.checked there image =
    many_is c.extents_read-extents.ensures c.table-2.ensures.table c.name-name.ensures.name c.extents.ensures.extents in
    omega (arith, is, read_some (staged_open c.requires.checked) r there some)

pub image_in-requires-clause-within : goal.image_in-requires-clause-within
image_in-requires-clause-within g c =
    let k = g.S.Store.table c.args.store.now in
    let r = c.index-volumes-index.result.row in
    let image : is_image_name r.name ≡ true = search rules in
    let there = row_in k c.requires.checked c.table.ensures.table c.volumes.ensures.volumes c.requires.within c.index-volumes-index.is in
    let size = row_size k c.requires.checked c.table.ensures.table c.volumes.ensures.volumes c.requires.within c.index-volumes-index.is in
    let is : c.extents_read-extents.result ≡ many g.S.Store c.args.store.now r c.requires.checked there image =
    many_is c.extents_read-extents.ensures c.table-2.ensures.table c.name-name.ensures.name c.extents.ensures.extents in
    let less = mul-le-mul_right (g.S.Store.site c.args.store.now).geometry.extent (read_within (staged_open c.requires.checked) r there) in
    subst (λ n. c.extents_read-extents.result * (g.S.Store.site c.args.store.now).geometry.extent ≤ sectors_in (stored g.S.Store c.args.store.now) n) (sym c.name-name.ensures.name)
    (omega (arith, size, less, ap (λ (n : ℕ). n * (g.S.Store.site c.args.store.now).geometry.extent) is))

pub returns-in_err-image-clause-cause : goal.returns-in_err-image-clause-cause
returns-in_err-image-clause-cause g c =
    let k = g.S.Store.table c.args.store.now in
    let q = c.index-volumes-index.result.row in
    let image : is_image_name q.name ≡ true = search rules in
    let there = row_in k c.requires.checked c.table.ensures.table c.volumes.ensures.volumes c.requires.within c.index-volumes-index.is in
    let is : c.from_residual.result ≡ Err c.in_err-image.field-0.0 = search rules in
    let filled : IsFilledImage q = record { image = search rules; filled = search rules } in
    let extents : c.extents_read-extents.result ≡ many g.S.Store c.args.store.now q c.requires.checked there image =
    many_is c.extents_read-extents.ensures c.table-2.ensures.table c.name-name.ensures.name c.extents.ensures.extents in
    if_err _ c.from_residual.result c.in_err-image.field-0.0 is (λ r at.
    let same = row_is k c.requires.checked c.table.ensures.table c.volumes.ensures.volumes c.requires.within c.index-volumes-index.is r at in
    subst (λ (z : Row). FailsAt g.S.Store (stored_read g.S.Store c.args.store.now) (as_read (making (table_alone k)) z) c.in_err-image.field-0.0 c.args.store.now c.image_in.new.store) (sym same)
    (row_fails g.S.Store c.args.store.now q c.requires.checked there image c.in_err-image.field-0.0 c.image_in.new.store c.name-name.ensures.name extents filled.filled c.in_err-image.ensures.cause))

pub returns-clause-some : goal.returns-clause-some
returns-clause-some g c = λ r at.
    let k = g.S.Store.table c.args.store.now in
    let q = c.index-volumes-index.result.row in
    let image : is_image_name q.name ≡ true = search rules in
    let there = row_in k c.requires.checked c.table.ensures.table c.volumes.ensures.volumes c.requires.within c.index-volumes-index.is in
    let filled : IsFilledImage q = record { image = search rules; filled = search rules } in
    let same = row_is k c.requires.checked c.table.ensures.table c.volumes.ensures.volumes c.requires.within c.index-volumes-index.is r at in
    let extents : c.extents_read-extents.result ≡ many g.S.Store c.args.store.now q c.requires.checked there image =
    many_is c.extents_read-extents.ensures c.table-2.ensures.table c.name-name.ensures.name c.extents.ensures.extents in
    let row = row_read g.S.Store c.args.store.now q c.requires.checked there image c.in_ok-image.image c.name-name.ensures.name extents c.is_hidden-hidden.ensures.hidden c.in_ok-image.ensures.name
    c.in_ok-image.ensures.image in
    (subst IsFilledImage (sym same) filled, subst (λ (z : Row). IsRow g.S.Store.told (stored_read g.S.Store c.args.store.now) (as_read (making (table_alone k)) z) (record { image = c.in_ok-image.image; hidden = c.is_hidden-hidden.result; extents = c.extents_read-extents.result })) (sym same) row)
