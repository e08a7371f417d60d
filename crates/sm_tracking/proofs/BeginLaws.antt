-- A disk's log may be made where no cause refuses that its tracking begins.
use Rattle.std.proofs.Common.{◌≡◌, ℕ, ◌*◌, ◌<◌, ◌≤◌, ◌&&◌, not, Bool, true, false, List, length, replicate, Option, Some, None, refl, sym, ap, ap₂, ◌∙◌, subst, subst₂, zero, suc, arith}
use Rattle.std.specs.Prelude.{is_some}
use Rattle.std.specs.Str.{bytes_eq}
use Rattle.std.proofs.Math.Logic.{∥∥₁_elim}
use Rattle.std.proofs.Props.{props}
use Rattle.std.proofs.lemmas.Bool.{ltb-false, true≢false}
use Rattle.std.proofs.lemmas.List.{length-replicate}
use Rattle.common_laws.proofs.Bytes.{bytes_eq-refl}
use Rattle.common_laws.proofs.Lists.{In-map_at}
use Rattle.sm_base.proofs.NumberLemmas.{div_up-pos, le-div_up}
use Rattle.sm_base.specs.Names.{IsUuid}
use Rattle.sm_log.specs.Logs.{Log, log_of, log_sectors, new_log, piece_count, with_log}
use Rattle.sm_machine.proofs.Guests.{disk_image_is}
use Rattle.sm_machine.proofs.Passed.{passed}
use Rattle.sm_machine.specs.Refusals.{disk_pieces, is_tracked, lacks_space, log_need, log_room, named, need, refusal, with_image_of}
use Rattle.sm_machine.specs.Shapes.{ImageRow, Shape, free, image_uuid, is_image_of}
use Rattle.sm_machine.specs.Tracking.{begun, with_logs}
use Rattle.sm_machine.specs.declared.commands.Command.TheVariants.{Track}
use Rattle.vg_extents.specs.Fits.{AreLeastFree}
use Rattle.vg_meta.specs.Changes.{AreFree}
use Rattle.vg_meta.specs.Tables.{VolumeTable}
use Rattle.vg_volumes.specs.Sites.{Site}
use Rattle.vg_volumes.specs.declared.stores.Store.{Ghosts}
use Rattle.sm_base.specs.declared.sizes.Geometry.{Geometry}
use Rattle.sm_ready.proofs.ChainLaws.{tab}
use Rattle.sm_ready.specs.Does.{store_shape}
use Rattle.sm_ready.specs.Framing.{IsBetweenSteps}
use Rattle.sm_ready.specs.Refusing.{IsAllowed, Measures, Recalls}
use Rattle.sm_ready.specs.declared.memory.Memory.{Memory}
use Rattle.sm_ready.proofs.LeftLaws.{extent_some}
use Rattle.sm_logs.specs.Held.{log_limit}
use Rattle.sm_ready.proofs.OwnLaws.{IsOwn, own_row}
use Rattle.sm_ready.specs.Known.{Known, known, machine_row, shape_in}
use Rattle.sm_ready.specs.Orderly.{IsOrderly}
use Rattle.sm_ready.specs.Ready.{IsTidy}
use Rattle.sm_tracking.proofs.MadeLaws.{IsToLog}

its_image : (u : List ℕ) (i : ImageRow) → i.hidden ≡ false → image_uuid i.name ≡ u → is_image_of u i ≡ true
its_image u i shown is = ap₂ (λ (a : Bool) (v : List ℕ). not a && bytes_eq v u) shown is ∙ bytes_eq-refl u

no_some : {A : Type 0} (o : Option A) → is_some o ≡ false → o ≡ None
no_some None e = refl
no_some (Some x) e = absurd (true≢false e)

module _ {s : Site} {t : VolumeTable} {m : Known} (u : List ℕ) (o : IsOrderly s t m) (tidy : IsTidy t m) (passes : refusal (shape_in s t m) (Track u true) ≡ None) where
  abbrev σ : Shape
  σ = shape_in s t m

  own : IsOwn m u
  unfolding named
  own = own_row s t m (Track u true) u o passes refl

  pub unlogged : log_of u m.logs ≡ None
  unfolding is_tracked shape_in
  unlogged = no_some (log_of u m.logs) (passed σ (Track u true) passes).tracked

  pub some_pieces : 1 ≤ disk_pieces u σ
  unfolding shape_in
  some_pieces = ∥∥₁_elim o.well_formed (hlevel props) (λ w.
      let i : ImageRow = machine_row own.row in
      let there = In-map_at machine_row m.rows own.row own.there in
      let size = (w.images i there).whole in
      let some : 0 < size.0 * s.geometry.block = positive size.0 s.geometry.block size.2 (omega (arith, w.geometry.block_least)) in
      subst (λ (x : Option ImageRow). 1 ≤ with_image_of (λ j. piece_count j.size) x) (sym (disk_image_is σ w u i there (its_image u i own.shown own.uuid)))
      (div_up-pos i.size 128 (omega arith) (subst (λ (n : ℕ). 0 < n) (sym size.1) some)))
    where
      positive : (a b : ℕ) → 0 < a → 0 < b → 0 < a * b
      positive zero b e f = absurd (omega (arith, e))
      positive (suc a) zero e f = absurd (omega (arith, f))
      positive (suc a) (suc b) e f = omega arith

  module _ {es : List ℕ} (few : length m.logs < log_limit) (proper : IsUuid u) (many : length es ≡ log_room σ u) (extents_free : AreFree s.count t.volumes es) where
    abbrev pub fresh_log : Log
    fresh_log = new_log u (length es) (disk_pieces u σ)

    long : length (replicate {A = Bool} (disk_pieces u σ) false) ≡ disk_pieces u σ
    long = length-replicate (disk_pieces u σ) false

    pub to_begin : IsToLog s t m fresh_log es
    unfolding need log_need lacks_space shape_in
    to_begin = record {
      orderly = o;
      tidy = tidy;
      absent = unlogged;
      few = few;
      some = subst (λ (n : ℕ). 1 ≤ n) (sym long) some_pieces;
      long = refl;
      room = subst₂ (λ (n k : ℕ). log_sectors n ≤ k * s.geometry.extent) (sym long) (sym many) (le-div_up (log_sectors (disk_pieces u σ)) s.geometry.extent (extent_some s t m o));
      proper = proper;
      extents_free = extents_free;
      enough = subst (λ (n : ℕ). n ≤ free σ) (sym many) (ltb-false (free σ) (need σ (Track u true)) (passed σ (Track u true) passes).space);
    }

    -- the same by the number of pieces that was found
    pub to_make : (pieces : ℕ) → pieces ≡ disk_pieces u σ → IsToLog s t m (new_log u (length es) pieces) es
    to_make pieces is = subst (λ (n : ℕ). IsToLog s t m (new_log u (length es) n) es) (sym is) to_begin

    pub begun_logs : (pieces : ℕ) → pieces ≡ disk_pieces u σ → with_log (new_log u (length es) pieces) m.logs ≡ (begun σ u).logs
    unfolding shape_in
    begun_logs pieces is = ap₂ (λ (n k : ℕ). with_log (new_log u n k) m.logs) many is

    pub begun_shape : (pieces : ℕ) → pieces ≡ disk_pieces u σ → with_logs (with_log (new_log u (length es) pieces) m.logs) 2 σ ≡ begun σ u
    begun_shape pieces is = ap (λ (ls : List Log). with_logs ls 2 σ) (begun_logs pieces is)

-- ---- what the beginning of tracking finds of a store

-- the log of so many pieces may be made on these extents, and with it logs and shape are the machine's
pub record Begins {S : Type 0} (g : Ghosts S) (a : S) (m : Memory) (u : List ℕ) (pieces : ℕ) (es : List ℕ) : Type 0 where
  pub may : IsToLog (g.site a) (tab g a) (known m) (new_log u (length es) pieces) es
  pub logs : with_log (new_log u (length es) pieces) m.logs ≡ (begun (store_shape g a m) u).logs
  pub shape : with_logs (with_log (new_log u (length es) pieces) m.logs) 2 (store_shape g a m) ≡ begun (store_shape g a m) u

pub begins : {S : Type 0} (g : Ghosts S) (a : S) (m : Memory) (u : List ℕ) (pieces room count : ℕ) (sizes : Geometry) (v : VolumeTable) (es : List ℕ) → IsBetweenSteps g a m → IsAllowed g (Track u true) a m → length m.logs < log_limit → IsUuid u
    → Recalls (λ σ. disk_pieces u σ) (known m) pieces → Measures (λ σ. log_room σ u) sizes (known m) room → sizes ≡ (g.site a).geometry → count ≡ (g.site a).count → v ≡ tab g a → length es ≡ room → AreFree count v.volumes es
    → Begins g a m u pieces es
begins g a m u pieces room count sizes v es i allowed few proper recalls measures same counted table many free =
    let long : length es ≡ log_room (store_shape g a m) u = many ∙ measures (g.site a) (tab g a) (sym same) i.orderly i.tidy in
    let found = recalls (g.site a) (tab g a) i.orderly i.tidy in
    let extents : AreFree (g.site a).count (tab g a).volumes es = subst₂ (λ (n : ℕ) (y : VolumeTable). AreFree n y.volumes es) counted table free in
    record {
      may = to_make u i.orderly i.tidy allowed few proper long extents pieces found;
      logs = begun_logs u i.orderly i.tidy allowed few proper long extents pieces found;
      shape = begun_shape u i.orderly i.tidy allowed few proper long extents pieces found;
    }

-- the extents that were found are the least, as many as the machine says
pub least_begun : {S : Type 0} (g : Ghosts S) (a : S) (m : Memory) (u : List ℕ) (room count : ℕ) (sizes : Geometry) (v : VolumeTable) (es : List ℕ) → IsBetweenSteps g a m → Measures (λ σ. log_room σ u) sizes (known m) room
    → sizes ≡ (g.site a).geometry → count ≡ (g.site a).count → v ≡ tab g a → AreLeastFree count room v es → AreLeastFree (g.site a).count (log_room (store_shape g a m) u) (tab g a) es
least_begun g a m u room count sizes v es i measures same counted table fit =
    let is : room ≡ log_room (store_shape g a m) u = measures (g.site a) (tab g a) (sym same) i.orderly i.tidy in
    subst (λ (n : ℕ). AreLeastFree (g.site a).count n (tab g a) es) is (subst₂ (λ (n : ℕ) (y : VolumeTable). AreLeastFree n room y es) counted table fit)
