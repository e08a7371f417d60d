use Rattle.std.proofs.Common.{◌≡◌, ◌+◌, ◌++◌, ◌∷◌, [], false, length, replicate, sym, ap, subst, ◌∙◌, ℕ, List, Bool, rules, arith}
use Rattle.vg_meta.specs.Tables.{AreVolumes, extents_in}
use Rattle.vg_meta.specs.Roomy.{RoomyRow, rows_alone}
use Rattle.vg_meta.specs.Taken.{IsMarked}
use Rattle.vg_meta.proofs.ReadSteps.{Read, read_first, read_more, refilled, extents-push}
use Rattle.vg_meta.proofs.reading.volumes_at.Goals as goal

pub loop-init : goal.loop-init
loop-init c =
    let none : c.in-Ok.met.items ≡ replicate c.args.count false = search rules in
    record {
      so_far = read_first c.args.grammar c.args.count c.args.bytes.now c.new-volumes.result.items c.in-Ok.met.items c.new-volumes.ensures.items none;
      left = omega (arith, ap (λ (hs : List RoomyRow). length (extents_in (rows_alone hs))) c.new-volumes.ensures.items);
    }

pub loop-preserved : goal.loop-preserved
loop-preserved c =
    let vs = c.loop.volumes.items in
    let v = c.in-Ok-next_volume.read.0 in
    let ws = c.next_volume.new.met in
    let count : length c.deref_mut.result.now ≡ c.args.count = ap length c.deref_mut.ensures.value ∙ c.loop.invariant.so_far.long in
    let same : length ws ≡ length c.deref_mut.result.now = search rules in
    let full : length ws ≡ c.loop.met.len = omega (arith, same, count, c.loop.invariant.so_far.long, c.loop.met.ok.0) in
    let kept = refilled c.loop.met.len ws c.loop.met.items full in
    let pushed : c.push.new.self.items ≡ vs ++ v ∷ [] = search rules in
    let volumes : AreVolumes c.args.count (rows_alone vs ++ v.row ∷ []) =
    subst (λ (n : ℕ). AreVolumes n (rows_alone vs ++ v.row ∷ [])) count
    (subst (λ (hs : List RoomyRow). AreVolumes (length c.deref_mut.result.now) (rows_alone hs ++ v.row ∷ [])) c.deref.ensures.value c.in-Ok-next_volume.ensures.volumes) in
    let marked : IsMarked (extents_in (rows_alone vs) ++ v.row.extents) ws =
    subst (λ (hs : List RoomyRow). IsMarked (extents_in (rows_alone hs) ++ v.row.extents) ws) c.deref.ensures.value c.in-Ok-next_volume.ensures.marks in
    let spent = ap (λ (hs : List RoomyRow). length (extents_in (rows_alone hs))) pushed in
    record {
      so_far = subst (λ (marks : List Bool). Read c.args.grammar c.args.count c.args.bytes.now c.in-Ok-next_volume.read.1.now c.push.new.self.items marks (c.loop.counter + 1)) (sym kept)
          (read_more c.args.grammar c.args.count c.args.bytes.now c.loop.rest.now c.in-Ok-next_volume.read.1.now vs c.push.new.self.items v c.loop.met.items ws c.loop.counter
          c.loop.invariant.so_far pushed c.in-Ok-next_volume.ensures.text volumes (same ∙ count) marked);
      left = omega (arith, spent, extents-push vs v, c.loop.invariant.left, ap (λ (es : List ℕ). length es) c.extents.ensures.extents, c.in-Ok-next_volume.ensures.few);
    }
