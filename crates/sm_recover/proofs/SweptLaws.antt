-- What an opening makes of a store beside which memory is at rest, as a shape: that in memory, with the number that the table has once the
-- new volumes are gone.
use Rattle.std.proofs.Common.{◌≡◌, ◌⊎◌, inl, inr, ℕ, zero, suc, ◌≤◌, Bool, true, false, List, [], ◌∷◌, length, map, refl, sym, ap, ap₂, ◌∙◌, subst, arith}
use Rattle.common_laws.specs.Lists.{In}
use Rattle.sm_base.specs.declared.names.Name.{Name}
use Rattle.sm_log.specs.Logs.{log_of}
use Rattle.sm_machine.specs.Operations.{Idle}
use Rattle.sm_disk.specs.Held.{Held, reads}
use Rattle.sm_disk.proofs.HeldLaws.{Keeps-none}
use Rattle.vg_meta.specs.Changes.{applied}
use Rattle.vg_meta.specs.Tables.{Row}
use Rattle.vg_meta.specs.declared.changes.Change.TheVariants.{Remove}
use Rattle.vg_volumes.specs.Stored.{Stored}
use Rattle.sm_standing.specs.Images.{image_of}
use Rattle.sm_standing.specs.Logs.{log_at}
use Rattle.sm_standing.specs.Opened.{cleaned, opened}
use Rattle.sm_standing.specs.Shapes.{shape, unattached}
use Rattle.sm_standing.specs.Standing.{disks}
use Rattle.sm_standing.proofs.OpenedLaws.{opened_simple, shape_same}
use Rattle.sm_standing.proofs.UndoneLaws.{undone_none}
use Rattle.sm_ready.specs.Known.{Known, shape_in}
use Rattle.sm_ready.specs.Ready.{HasNoStrayLog}
use Rattle.sm_ready.specs.Repairs.{IsAtRest, IsNewVolume, RestsAgain, content_of}
use Rattle.sm_ready.proofs.AgainLaws.{again_less, again_none, again_then}
use Rattle.sm_ready.proofs.CleanLaws.{cleaned_all, cleaned_more}
use Rattle.sm_ready.proofs.NewVolumeLaws.{removed_shorter}
use Rattle.sm_ready.proofs.Orders.{none_making}
use Rattle.sm_ready.proofs.RemoveLaws.{none_folding}
use Rattle.sm_ready.proofs.RowLaws.{found_in}
use Rattle.sm_ready.proofs.SameLogs.{read_of}
use Rattle.sm_ready.proofs.StateLaws.{law_shape}
use Rattle.sm_ready.specs.Stores.{content_now}

-- none is new, or one is
some_new : (rs : List Row) → ((r : Row) → In r rs → r.fresh ≡ false) ⊎ ((r : Row) × In r rs × (r.fresh ≡ true))
some_new [] = inl (λ r i. absurd i)
some_new (r ∷ rs) = by r.fresh refl (some_new rs)
  where
    each : r.fresh ≡ false → ((q : Row) → In q rs → q.fresh ≡ false) → (q : Row) → In q (r ∷ rs) → q.fresh ≡ false
    each is rest q (inl same) = ap (λ (x : Row). x.fresh) same ∙ is
    each is rest q (inr i) = rest q i

    by : (b : Bool) → r.fresh ≡ b → ((q : Row) → In q rs → q.fresh ≡ false) ⊎ ((q : Row) × In q rs × (q.fresh ≡ true)) → ((q : Row) → In q (r ∷ rs) → q.fresh ≡ false) ⊎ ((q : Row) × In q (r ∷ rs) × (q.fresh ≡ true))
    by true is rest = inr (r, inl refl, is)
    by false is (inl none) = inl (each is none)
    by false is (inr w) = inr (w.0, inr w.1, w.2)

-- the store without its new volumes
pub record IsSweptOf (x : Stored) (m : Known) : Type 0 where
  pub now : Stored
  pub again : RestsAgain x now m m
  pub none_new : (r : Row) → In r now.table.volumes → r.fresh ≡ false
  pub site : now.site ≡ x.site
  pub table : cleaned now.table ≡ cleaned x.table
  pub area : now.area ≡ x.area

module _ (x : Stored) (m : Known) (rest : IsAtRest x m) where
  new_at : (r : Row) → In r x.table.volumes → r.fresh ≡ true → IsNewVolume x.table r.name
  new_at r i new = (r, found_in x.table.volumes rest.orderly.table.volumes.rising r i, new)

  abbrev less : Name → Stored
  less n = record { site = x.site; table = applied x.table (Remove n); area = x.area }

  first_less : (n : Name) → IsNewVolume x.table n → RestsAgain x (less n) m m
  first_less n new = again_less x n new (less n) m refl refl (Keeps-none x.area) rest.settled

  next_less : (n : Name) (new : IsNewVolume x.table n) → IsSweptOf (less n) m → IsSweptOf x m
  next_less n new behind = record {
    now = behind.now;
    again = again_then (first_less n new) behind.again;
    none_new = behind.none_new;
    site = behind.site;
    table = behind.table ∙ cleaned_more x.table x.table (less n).table n refl new refl;
    area = behind.area;
  }

swept_of : (k : ℕ) (x : Stored) (m : Known) → length x.table.volumes ≤ k → IsAtRest x m → IsSweptOf x m
swept_of zero x m short rest = by (some_new x.table.volumes)
  where
    by : ((r : Row) → In r x.table.volumes → r.fresh ≡ false) ⊎ ((r : Row) × In r x.table.volumes × (r.fresh ≡ true)) → IsSweptOf x m
    by (inl none) = record { now = x; again = again_none x m; none_new = none; site = refl; table = refl; area = refl }
    by (inr w) = absurd (let fewer = removed_shorter x.table (less x m rest w.0.name).table w.0.name (new_at x m rest w.0 w.1 w.2) refl in omega (arith, fewer, short))
swept_of (suc k) x m short rest = by (some_new x.table.volumes) (λ y fewer again. swept_of k y m fewer again)
  where
    by : ((r : Row) → In r x.table.volumes → r.fresh ≡ false) ⊎ ((r : Row) × In r x.table.volumes × (r.fresh ≡ true)) → ((y : Stored) → length y.table.volumes ≤ k → IsAtRest y m → IsSweptOf y m) → IsSweptOf x m
    by (inl none) further = record { now = x; again = again_none x m; none_new = none; site = refl; table = refl; area = refl }
    by (inr w) further =
        let n = w.0.name in
        let new = new_at x m rest w.0 w.1 w.2 in
        next_less x m rest n new (further (less x m rest n) (let fewer = removed_shorter x.table (less x m rest n).table n new refl in omega (arith, fewer, short)) ((first_less x m rest n new).rest rest))

-- the store without its new volumes
abbrev swept : Stored → Stored
swept x = record x { table = cleaned x.table }

module _ (x : Stored) (m : Known) (rest : IsAtRest x m) where
  w : IsSweptOf x m
  w = swept_of (length x.table.volumes) x m (omega arith) rest

  is_swept : (let v = w in v.now) ≡ swept x
  is_swept =
      let v = w in
      let y = v.now in
      let o = (v.again.rest rest).orderly in
      ap₂ (λ s u. let z : Stored = record { site = s; table = u; area = y.area } in z) v.site (cleaned_all y.site.count x.table y.table o.table v.none_new v.table)
      ∙ ap (λ (h : Held). let z : Stored = record { site = x.site; table = cleaned x.table; area = h } in z) v.area

  again : RestsAgain x (swept x) m m
  again = subst (λ z. RestsAgain x z m m) is_swept (let v = w in v.again)

  none_new : (r : Row) → In r (cleaned x.table).volumes → r.fresh ≡ false
  none_new = subst (λ (z : Stored). (r : Row) → In r z.table.volumes → r.fresh ≡ false) is_swept (let v = w in v.none_new)

  opened_swept : opened (content_of x) ≡ shape (content_of (swept x))
  opened_swept =
      opened_simple (content_of x) (none_folding x.site x.table m rest.orderly rest.idle)
      ∙ ap (λ t. shape (content_now x.site (cleaned t) x.area)) (undone_none x.table (none_making x.site x.table m rest.orderly))

  -- the shape of what is in memory is that of the store
  detached : (z : Stored) (k : Known) → k.attached.disks ≡ [] → k.op ≡ Idle → shape_in z.site z.table k ≡ unattached (shape_in z.site z.table k)
  unfolding shape_in
  detached z k attached idle = λ i. record (shape_in z.site z.table k) { attached = map (λ a. record { disk = a.0; mode = a.1 }) (attached i); op = idle i }

  pub opened_shape : m.attached.disks ≡ [] → HasNoStrayLog m → opened (content_of x) ≡ record (shape_in x.site x.table m) { sequence = (cleaned x.table).sequence }
  unfolding shape_in
  opened_shape attached no_stray =
      let r = again.rest rest in
      opened_swept ∙ law_shape x.site (cleaned x.table) x.area m none_new no_stray r.orderly r.ready ∙ sym (detached (swept x) m attached rest.idle)

  -- memory that is ready beside the store once the new volumes and the records of no disk are gone has the shape that an opening is to make
  pub shape_opened : (z : Stored) (k : Known) → RestsAgain x z m k → z.site ≡ x.site → z.table ≡ cleaned x.table → ((r : Row) → In r z.table.volumes → r.fresh ≡ false) → k.attached.disks ≡ [] → k.op ≡ Idle → HasNoStrayLog k
      → shape_in z.site z.table k ≡ opened (content_of x)
  shape_opened z k then site table old attached idle no_stray =
      let r = then.rest rest in
      let is : z ≡ record { site = x.site; table = cleaned x.table; area = z.area } = ap₂ (λ s u. let y : Stored = record { site = s; table = u; area = z.area } in y) site table in
      detached z k attached idle ∙ sym (law_shape z.site z.table z.area k old no_stray r.orderly r.ready) ∙ ap (λ y. shape (content_of y)) is
      ∙ shape_same (content_of (swept x)) (reads z.area) (ap (λ y. disks (content_of y)) (sym is) ∙ then.same_disks rest ∙ sym (again.same_disks rest))
      (λ n. ap (λ y. image_of (content_of y) n) (sym is) ∙ then.same_images rest n ∙ sym (again.same_images rest n))
      (λ u. ap (λ y. log_at (content_of y) u) (sym is) ∙ read_of (content_of z) k.logs r.ready.logs u ∙ ap (log_of u) then.same_logs ∙ sym (read_of (content_of (swept x)) m.logs (again.rest rest).ready.logs u))
      ∙ sym opened_swept
