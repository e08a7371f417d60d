use Rattle.std.proofs.Common.{◌≡◌, ◌<◌, ◌^◌, ℕ, List, length, sym, ap, subst, ◌∙◌, arith}
use Rattle.byteorder.specs.Endian.{big_bytes}
use Rattle.vg_meta.specs.Tables.{Row}
use Rattle.vg_meta.specs.Roomy.{RoomyTable, table_alone, rows_alone}
use Rattle.vg_meta.specs.Text.{text_by}
use Rattle.vg_meta.specs.Changes.{AllowsIn, changed, applied, raised}
use Rattle.vg_meta.specs.Writing.{WritesText, HaveRoom, volumes_by}
use Rattle.vg_meta.proofs.WriteLaws.{length-text_by, text_written, text_in_front}
use Rattle.vg_meta.proofs.SpliceLaws.{room_behind}
use Rattle.vg_meta.proofs.tables.Table.encode_changed_by.Goals as goal

pub put_sequence-count_at-requires : goal.put_sequence-count_at-requires
put_sequence-count_at-requires c =
    omega (arith, length-text_by c.args.grammar (applied (table_alone c.args.self.now) c.args.change.now), c.requires.fits)

pub changed_count-count-requires-clause-allowed : goal.changed_count-count-requires-clause-allowed
changed_count-count-requires-clause-allowed c =
    let seen : rows_alone c.deref.result.now ≡ (table_alone c.args.self.now).volumes =
    ap rows_alone c.deref.ensures.value ∙ ap (λ (k : RoomyTable). (table_alone k).volumes) c.self.view_is in
    subst (λ (rs : List Row). AllowsIn (2 ^ 32) rs c.args.change.now) (sym seen) c.requires.allowed

pub changed_count-count-requires-clause-few : goal.changed_count-count-requires-clause-few
changed_count-count-requires-clause-few c =
    let seen : rows_alone c.deref.result.now ≡ (table_alone c.args.self.now).volumes =
    ap rows_alone c.deref.ensures.value ∙ ap (λ (k : RoomyTable). (table_alone k).volumes) c.self.view_is in
    subst (λ (rs : List Row). length (changed rs c.args.change.now) < 2 ^ 32) (sym seen) c.requires.numbers.volumes

pub put_number-volumes_at-requires : goal.put_number-volumes_at-requires
put_number-volumes_at-requires c =
    omega (arith, length-text_by c.args.grammar (applied (table_alone c.args.self.now) c.args.change.now), c.requires.fits, c.put_sequence-count_at.ensures.behind)

pub put_changed-requires-clause-allowed : goal.put_changed-requires-clause-allowed
put_changed-requires-clause-allowed c =
    let seen : rows_alone c.deref-2.result.now ≡ (table_alone c.args.self.now).volumes =
    ap rows_alone c.deref-2.ensures.value ∙ ap (λ (k : RoomyTable). (table_alone k).volumes) c.self.view_is in
    subst (λ (rs : List Row). AllowsIn (2 ^ 32) rs c.args.change.now) (sym seen) c.requires.allowed

pub put_changed-requires-clause-room : goal.put_changed-requires-clause-room
put_changed-requires-clause-room c =
    let seen : rows_alone c.deref-2.result.now ≡ (table_alone c.args.self.now).volumes =
    ap rows_alone c.deref-2.ensures.value ∙ ap (λ (k : RoomyTable). (table_alone k).volumes) c.self.view_is in
    let size = length c.put_number-volumes_at.new.to in
    subst (λ (rs : List Row). HaveRoom c.args.grammar (changed rs c.args.change.now) c.put_number-volumes_at.result size) (sym seen)
    (room_behind (applied (table_alone c.args.self.now) c.args.change.now) c.put_number-volumes_at.result size c.requires.numbers (omega (arith, c.requires.fits))
    (omega (arith, c.put_sequence-count_at.ensures.behind, c.put_number-volumes_at.ensures.behind)))

-- the three parts stand one behind the other
whole : (c : goal.After-slice_known-4-1) → WritesText 0 (text_by c.args.grammar (applied (table_alone c.args.self.now) c.args.change.now)) c.args.to.now c.put_changed.new.to c.put_changed.result
whole c =
    let rises : c.raised.result ≡ raised (table_alone c.args.self.now).sequence = c.raised.ensures ∙ ap (λ (k : RoomyTable). raised k.sequence) c.self.view_is in
    let first = subst (λ (n : ℕ). WritesText 0 (big_bytes 8 n) c.args.to.now c.put_sequence-count_at.new.to c.put_sequence-count_at.result) rises c.put_sequence-count_at.ensures in
    let seen : rows_alone c.deref.result.now ≡ (table_alone c.args.self.now).volumes =
    ap rows_alone c.deref.ensures.value ∙ ap (λ (k : RoomyTable). (table_alone k).volumes) c.self.view_is in
    let number : c.changed_count-count.result ≡ length (changed (table_alone c.args.self.now).volumes c.args.change.now) =
    c.changed_count-count.ensures ∙ ap (λ (rs : List Row). length (changed rs c.args.change.now)) seen in
    let second = subst (λ (n : ℕ). WritesText c.put_sequence-count_at.result (big_bytes 4 n) c.put_sequence-count_at.new.to c.put_number-volumes_at.new.to c.put_number-volumes_at.result)
    number c.put_number-volumes_at.ensures in
    let seen_again : rows_alone c.deref-2.result.now ≡ (table_alone c.args.self.now).volumes =
    ap rows_alone c.deref-2.ensures.value ∙ ap (λ (k : RoomyTable). (table_alone k).volumes) c.self.view_is in
    let third = subst (λ (rs : List Row). WritesText c.put_number-volumes_at.result (volumes_by c.args.grammar (changed rs c.args.change.now)) c.put_number-volumes_at.new.to c.put_changed.new.to c.put_changed.result)
    seen_again c.put_changed.ensures in
    text_written c.args.grammar (applied (table_alone c.args.self.now) c.args.change.now) _ _ _ c.args.to.now _ _ _ first second third

pub returns-clause-text : goal.returns-clause-text
returns-clause-text c = text_in_front (text_by c.args.grammar (applied (table_alone c.args.self.now) c.args.change.now)) c.args.to.now c.put_changed.new.to c.put_changed.result (whole c)

pub returns-clause-length : goal.returns-clause-length
returns-clause-length c = omega (arith, (whole c).behind)
