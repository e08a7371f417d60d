use Rattle.std.proofs.Common.{◌≡◌, ◌<◌, ◌^◌, ℕ, List, length, sym, ap, subst, arith}
use Rattle.std.specs.List.{flat_map}
use Rattle.byteorder.specs.Endian.{big_bytes}
use Rattle.vg_meta.specs.Tables.{VolumeTable, extents_in}
use Rattle.vg_meta.specs.Roomy.{RoomyTable, RoomyRow, table_alone, rows_alone}
use Rattle.vg_meta.specs.Text.{text_by, volume_by}
use Rattle.vg_meta.specs.Writing.{WritesText}
use Rattle.vg_meta.proofs.WriteLaws.{length-text_by, text_written, text_in_front, length-rows, few_each}
use Rattle.vg_meta.proofs.tables.Table.encode_by.Goals as goal

-- the length of the text, of the fields and of what is seen
pub put_sequence-number_at-requires : goal.put_sequence-number_at-requires
put_sequence-number_at-requires c =
    omega (arith, length-text_by c.args.grammar (table_alone c.args.self.now), c.requires.fits)

pub put_number-volumes_at-requires : goal.put_number-volumes_at-requires
put_number-volumes_at-requires c =
    omega (arith, length-text_by c.args.grammar (table_alone c.args.self.now), c.requires.fits, c.put_sequence-number_at.ensures.behind)

pub put_volumes-requires-clause-few : goal.put_volumes-requires-clause-few
put_volumes-requires-clause-few c =
    few_each c.deref.result.now
    (rw c.deref.ensures.value (subst (λ (k : RoomyTable). length (extents_in (table_alone k).volumes) < 2 ^ 32) (sym c.self.view_is) c.requires.numbers.extents))

pub put_volumes-requires-clause-room : goal.put_volumes-requires-clause-room
put_volumes-requires-clause-room c =
    let seen = ap (λ (k : RoomyTable). length (flat_map (volume_by c.args.grammar) (table_alone k).volumes)) c.self.view_is in
    let all = ap (λ (hs : List RoomyRow). length (flat_map (volume_by c.args.grammar) (rows_alone hs))) c.deref.ensures.value in
    omega (arith, seen, all, length-text_by c.args.grammar (table_alone c.args.self.now), c.requires.fits, c.put_sequence-number_at.ensures.behind, c.put_number-volumes_at.ensures.behind)

-- the three parts stand one behind the other
whole : (c : goal.After-slice_known-4-1) → WritesText 0 (text_by c.args.grammar (table_alone c.args.self.now)) c.args.to.now c.put_volumes.new.to c.put_volumes.result
whole c =
    let hs = c.self.inside.volumes.items in
    let t : VolumeTable = record { sequence = c.self.inside.seq; volumes = rows_alone hs } in
    let number : c.len.result ≡ length (rows_alone hs) = omega (arith, c.len.ensures, c.self.inside.volumes.ok.0, length-rows hs) in
    let second = subst (λ (n : ℕ). WritesText c.put_sequence-number_at.result (big_bytes 4 n) c.put_sequence-number_at.new.to c.put_number-volumes_at.new.to c.put_number-volumes_at.result)
    number c.put_number-volumes_at.ensures in
    let third = subst (λ (l : List RoomyRow). WritesText c.put_number-volumes_at.result (flat_map (volume_by c.args.grammar) (rows_alone l)) c.put_number-volumes_at.new.to c.put_volumes.new.to c.put_volumes.result)
    c.deref.ensures.value c.put_volumes.ensures in
    subst (λ (k : RoomyTable). WritesText 0 (text_by c.args.grammar (table_alone k)) c.args.to.now c.put_volumes.new.to c.put_volumes.result) c.self.view_is
    (text_written c.args.grammar t c.put_sequence-number_at.result c.put_number-volumes_at.result c.put_volumes.result c.args.to.now _ _ _ c.put_sequence-number_at.ensures second third)

pub returns-clause-text : goal.returns-clause-text
returns-clause-text c = text_in_front (text_by c.args.grammar (table_alone c.args.self.now)) c.args.to.now c.put_volumes.new.to c.put_volumes.result (whole c)

pub returns-clause-length : goal.returns-clause-length
returns-clause-length c = omega (arith, (whole c).behind)
