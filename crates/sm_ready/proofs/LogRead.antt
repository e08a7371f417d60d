-- The logs that an opening reads off a table, volume by volume, and what the table says of them.
use Rattle.std.proofs.Common.{◌≡◌, ℕ, ◌+◌, ◌≤◌, ◌==◌, ◌&&◌, not, inl, inr, Bool, true, false, cond, List, [], ◌∷◌, ◌++◌, length, map, Option, Some, None, refl, sym, ap, ap₂, ◌∙◌, subst, arith, length-append}
use Rattle.std.specs.Prelude.{if◌then◌else◌}
use Rattle.std.specs.List.{cons_option, filter_map}
use Rattle.std.specs.declared.cmp.Ordering.TheVariants.{Less}
use Rattle.std.proofs.lemmas.Bool.{true≢false, eq-eqb, eqb-true}
use Rattle.std.proofs.lemmas.Option.{none-some, same_Some}
use Rattle.common_laws.specs.Lists.{In}
use Rattle.sm_base.specs.Kinds.{is_image, is_log}
use Rattle.sm_base.specs.Names.{IsName, IsUuid, name_cmp}
use Rattle.sm_base.specs.declared.names.Name.{Name}
use Rattle.sm_base.specs.declared.names.Name.TheVariants.{Mgt, Vhd, Raw, Old, Cbt, Clone, Inflate, Coalesce, Relink, Leaf}
use Rattle.vg_meta.specs.Tables.{IsTable, IsVolume, Row, VolumeTable, extents_in, extents_of, name_eq, row_of, rows}
use Rattle.vg_meta.proofs.NameLaws.{name_eq-true}
use Rattle.vg_meta.proofs.RowLaws.{All-row_of, IsRising, row_of-name}
use Rattle.sm_log.specs.Logs.{Log, log_extents, log_of}
use Rattle.sm_logs.specs.Held.{IsRising as AreRising}
use Rattle.sm_machine.specs.Shapes.{image_extents}
use Rattle.sm_standing.proofs.DisksShown.{row_of-In}
use Rattle.sm_standing.proofs.Orders.{In-filter_map, filter_map-In, rising-filter_map, rising_ext}
use Rattle.vhd_chain.specs.declared.rows.TreeRow.{TreeRow}
use Rattle.sm_ready.specs.Known.{Face, log_face, machine_row, row_face}
use Rattle.sm_ready.proofs.LoadLaws.{IsReadFrom}
use Rattle.sm_ready.proofs.LogRows.{by_named, log_by, log_cmp, log_found, log_in_list, log_total, rising_logs}
use Rattle.sm_ready.proofs.Orders.{filled_face}
use Rattle.sm_ready.proofs.RowLaws.{found_in, rising_rows, row_cmp}

-- a log is that of a volume: it has its name, is not new and not hidden, and has as many extents
pub record IsLogFrom (r : Row) (l : Log) : Type 0 where
  pub named : r.name ≡ Cbt l.disk
  pub filled : r.fresh ≡ false
  pub shown : r.hidden ≡ false
  pub extents : l.extents ≡ length r.extents

module _ (log : Row → Option Log) (from : (r : Row) (l : Log) → log r ≡ Some l → IsLogFrom r l) where
  -- each volume of a log has its log, and no other has one
  pub log_faces : (t : VolumeTable) (ls : List Log) → IsRising t.volumes → ls ≡ filter_map log t.volumes → AreRising ls
      → ((r : Row) → In r t.volumes → is_log r.name ≡ true → (l : Log) × (log r ≡ Some l)) → (u : List ℕ) → row_face (rows t (Cbt u)) ≡ log_face (log_of u ls)
  log_faces t ls rising are order all u = by (rows t (Cbt u)) refl
    where
      none : rows t (Cbt u) ≡ None → (o : Option Log) → log_of u ls ≡ o → None ≡ log_face o
      none absent None found = refl
      none absent (Some l) found =
          let w = log_in_list ls u l found in
          let v = In-filter_map log t.volumes l (subst (In l) are w.0) in
          let named : v.0.name ≡ Cbt u = (from v.0 l v.2).named ∙ ap Cbt w.1 in
          absurd (none-some v.0 (sym absent ∙ ap (rows t) (sym named) ∙ found_in t.volumes rising v.0 v.1))

      by : (o : Option Row) → rows t (Cbt u) ≡ o → row_face o ≡ log_face (log_of u ls)
      by None is = none is (log_of u ls) refl
      by (Some r) is =
          let i = (row_of-In t.volumes (Cbt u) r is).0 in
          let named : r.name ≡ Cbt u = row_of-name t.volumes (Cbt u) r is in
          let l = all r i (ap is_log named) in
          let f = from r l.0 l.1 in
          let own : l.0.disk ≡ u = (let e = sym f.named ∙ named in cc) in
          let there : In l.0 ls = subst (In l.0) (sym are) (filter_map-In log t.volumes r l.0 i l.1) in
          let found : log_of u ls ≡ Some l.0 = subst (λ v. log_of v ls ≡ Some l.0) own (log_found ls order l.0 there) in
          filled_face r f.filled ∙ ap₂ (λ h e. Some (record { hidden = h; extents = e })) f.shown (sym f.extents) ∙ sym (ap log_face found)

  -- ---- their extents are extents of the table, beside those of images and of the records

  module _ (read : Row → Option TreeRow) (read_from : (r : Row) (x : TreeRow) → read r ≡ Some x → IsReadFrom r x) where
    abbrev images_in : List Row → ℕ
    images_in rs = image_extents (map machine_row (filter_map read rs))

    abbrev logs_of : List Row → ℕ
    logs_of rs = log_extents (filter_map log rs)

    -- a volume has an image, or a log, or neither
    step : (r : Row) (rs : List Row) (o : Option TreeRow) (p : Option Log) → read r ≡ o → log r ≡ p
        → image_extents (map machine_row (cons_option o (filter_map read rs))) + log_extents (cons_option p (filter_map log rs)) ≤ length r.extents + (images_in rs + logs_of rs)
    unfolding image_extents log_extents
    step r rs None None is_o is_p = omega arith
    step r rs (Some x) None is_o is_p = omega (arith, (read_from r x is_o).extents)
    step r rs None (Some l) is_o is_p = omega (arith, (from r l is_p).extents)
    step r rs (Some x) (Some l) is_o is_p = absurd (true≢false (sym (read_from r x is_o).image ∙ ap is_image (from r l is_p).named))

    within : (rs : List Row) → images_in rs + logs_of rs ≤ length (extents_in rs)
    unfolding image_extents log_extents
    within [] = omega arith
    within (r ∷ rs) = omega (arith, step r rs (read r) (log r) refl refl, within rs, length-append r.extents (extents_in rs))

    neither : (r : Row) (rs : List Row) (o : Option TreeRow) (p : Option Log) → r.name ≡ Mgt → read r ≡ o → log r ≡ p
        → image_extents (map machine_row (cons_option o (filter_map read rs))) + log_extents (cons_option p (filter_map log rs)) ≡ images_in rs + logs_of rs
    neither r rs None None named is_o is_p = refl
    neither r rs (Some x) p named is_o is_p = absurd (true≢false (sym (read_from r x is_o).image ∙ ap is_image named))
    neither r rs None (Some l) named is_o is_p = absurd (true≢false (ap is_log (sym (from r l is_p).named ∙ named)))

    pub all_fit : (rs : List Row) → length (extents_of (row_of rs Mgt)) + (images_in rs + logs_of rs) ≤ length (extents_in rs)
    unfolding row_of image_extents log_extents
    all_fit [] = omega arith
    all_fit (r ∷ rs) = by (name_eq r.name Mgt) refl (all_fit rs)
      where
        by : (b : Bool) → name_eq r.name Mgt ≡ b → length (extents_of (row_of rs Mgt)) + (images_in rs + logs_of rs) ≤ length (extents_in rs)
            → length (extents_of (cond b (Some r) (row_of rs Mgt))) + (images_in (r ∷ rs) + logs_of (r ∷ rs)) ≤ length (extents_in (r ∷ rs))
        by true is rest = omega (arith, neither r rs (read r) (log r) (name_eq-true r.name Mgt is) refl refl, within rs, length-append r.extents (extents_in rs))
        by false is rest = omega (arith, rest, step r rs (read r) (log r) refl refl, length-append r.extents (extents_in rs))

-- ---- the logs of memory, by the volumes of their names

-- the log of memory that a volume has: one with as many extents, where the volume is not new and not hidden
abbrev of_face : Row → Option Log → Option Log
of_face r None = None
of_face r (Some l) = if not r.fresh && (not r.hidden && (l.extents == length r.extents)) then Some l else None

pub log_among : List Log → Row → Option Log
log_among ls r = of_face r (log_by ls r.name)

pub among_from : (ls : List Log) (r : Row) (l : Log) → log_among ls r ≡ Some l → IsLogFrom r l
unfolding log_among
among_from ls r l e = by (log_by ls r.name) refl e
  where
    of : (k : Log) → log_by ls r.name ≡ Some k → (a b d : Bool) → r.fresh ≡ a → r.hidden ≡ b → (k.extents == length r.extents) ≡ d → (if not a && (not b && d) then Some k else None) ≡ Some l → IsLogFrom r l
    of k found false false true full shown long e =
        let same : k ≡ l = same_Some k l e in
        record { named = (by_named ls r.name k found).1 ∙ ap (λ (x : Log). Cbt x.disk) same; filled = full; shown = shown; extents = sym (ap (λ (x : Log). x.extents) same) ∙ eqb-true k.extents (length r.extents) long }
    of k found true b d full shown long e = absurd (none-some l e)
    of k found false true d full shown long e = absurd (none-some l e)
    of k found false false false full shown long e = absurd (none-some l e)

    by : (o : Option Log) → log_by ls r.name ≡ o → of_face r o ≡ Some l → IsLogFrom r l
    by None found e = absurd (none-some l e)
    by (Some k) found e = of k found r.fresh r.hidden (k.extents == length r.extents) refl refl refl e

in_memory : (ls : List Log) (r : Row) (l : Log) → log_among ls r ≡ Some l → In l ls
unfolding log_among
in_memory ls r l e = by (log_by ls r.name) refl e
  where
    of : (k : Log) → log_by ls r.name ≡ Some k → (b : Bool) → (if b then Some k else None) ≡ Some l → In l ls
    of k found true e = subst (λ x. In x ls) (same_Some k l e) (by_named ls r.name k found).0
    of k found false e = absurd (none-some l e)

    by : (o : Option Log) → log_by ls r.name ≡ o → of_face r o ≡ Some l → In l ls
    by None found e = absurd (none-some l e)
    by (Some k) found e = of k found (not r.fresh && (not r.hidden && (k.extents == length r.extents))) e

-- logs of memory beside a table: each volume of a log has one, is not new and not hidden, and there are no others
pub record AreLogsOf (t : VolumeTable) (ls : List Log) : Type 0 where
  pub faces : (u : List ℕ) → row_face (rows t (Cbt u)) ≡ log_face (log_of u ls)
  pub old : (u : List ℕ) (r : Row) → rows t (Cbt u) ≡ Some r → r.fresh ≡ false
  pub order : AreRising ls

module _ (count : ℕ) (t : VolumeTable) (ls : List Log) (table : IsTable count t) (a : AreLogsOf t ls) where
  -- a volume of a log has one
  pub among_all : (r : Row) → In r t.volumes → is_log r.name ≡ true → (l : Log) × (log_among ls r ≡ Some l)
  unfolding log_among
  among_all r i log = by r.name refl log
    where
      there : (u : List ℕ) → r.name ≡ Cbt u → rows t (Cbt u) ≡ Some r
      there u named = ap (rows t) (sym named) ∙ found_in t.volumes table.volumes.rising r i

      of : (u : List ℕ) → r.name ≡ Cbt u → (o : Option Log) → log_of u ls ≡ o → row_face (Some r) ≡ log_face o → (l : Log) × (of_face r (log_by ls r.name) ≡ Some l)
      of u named None found face = absurd (none-some (record { hidden = r.hidden; extents = length r.extents }) (sym face ∙ filled_face r (a.old u r (there u named))))
      of u named (Some l) found face =
          let full = a.old u r (there u named) in
          let same : record { hidden = r.hidden; extents = length r.extents } ≡ record { hidden = false; extents = l.extents } = same_Some _ _ (sym (filled_face r full) ∙ face) in (
            l,
            ap (λ (n : Name). of_face r (log_by ls n)) named ∙ ap (of_face r) found
                ∙ ap₂ (λ (b c : Bool). if not b && (not c && (l.extents == length r.extents)) then Some l else None) full (ap (λ (f : Face). f.hidden) same)
                ∙ ap (λ (b : Bool). if b then Some l else None) (eq-eqb l.extents (length r.extents) (sym (ap (λ (f : Face). f.extents) same))),
          )

      by : (n : Name) → r.name ≡ n → is_log n ≡ true → (l : Log) × (of_face r (log_by ls r.name) ≡ Some l)
      by (Cbt u) named log = of u named (log_of u ls) refl (ap row_face (sym (there u named)) ∙ a.faces u)
      by Mgt named log = absurd (true≢false (sym log))
      by (Vhd u) named log = absurd (true≢false (sym log))
      by (Raw u) named log = absurd (true≢false (sym log))
      by (Old u) named log = absurd (true≢false (sym log))
      by (Clone d b w) named log = absurd (true≢false (sym log))
      by (Inflate u k) named log = absurd (true≢false (sym log))
      by (Coalesce v p) named log = absurd (true≢false (sym log))
      by (Relink v p) named log = absurd (true≢false (sym log))
      by (Leaf v p) named log = absurd (true≢false (sym log))

  -- the volume of a log of memory
  volume_of : (l : Log) → In l ls → (r : Row) × (rows t (Cbt l.disk) ≡ Some r)
  volume_of l i = by (rows t (Cbt l.disk)) refl (a.faces l.disk ∙ ap log_face (log_found ls a.order l i))
    where
      by : (o : Option Row) → rows t (Cbt l.disk) ≡ o → row_face o ≡ log_face (Some l) → (r : Row) × (rows t (Cbt l.disk) ≡ Some r)
      by None is e = absurd (none-some (record { hidden = false; extents = l.extents }) e)
      by (Some r) is e = (r, is)

  -- and they are listed so
  pub among_are : ls ≡ filter_map (log_among ls) t.volumes
  unfolding log_among IsName
  among_are = rising_ext log_cmp log_total ls (filter_map (log_among ls) t.volumes) (rising_logs ls proper a.order) (rising-filter_map row_cmp log_cmp (log_among ls) keeps t.volumes (rising_rows t.volumes table.volumes.rising)) there back
    where
      proper : (l : Log) → In l ls → IsUuid l.disk
      proper l i = let w = volume_of l i in named_uuid w.0.name l.disk (row_of-name t.volumes (Cbt l.disk) w.0 w.1) (All-row_of IsVolume t.volumes (Cbt l.disk) w.0 table.volumes.each w.1).name
        where
          named_uuid : (n : Name) (u : List ℕ) → n ≡ Cbt u → IsName n → IsUuid u
          named_uuid n u named is = subst IsName named is

      keeps : (r s : Row) (k l : Log) → log_among ls r ≡ Some k → log_among ls s ≡ Some l → row_cmp r s ≡ Less → log_cmp k l ≡ Less
      keeps r s k l is_k is_l less = ap₂ name_cmp (sym (among_from ls r k is_k).named) (sym (among_from ls s l is_l).named) ∙ less

      there : (l : Log) → In l ls → In l (filter_map (log_among ls) t.volumes)
      there l i =
          let w = volume_of l i in
          let named = row_of-name t.volumes (Cbt l.disk) w.0 w.1 in
          let at = (row_of-In t.volumes (Cbt l.disk) w.0 w.1).0 in
          let m = among_all w.0 at (ap is_log named) in
          let same : m.0 ≡ l = same_Some m.0 l (sym (log_found ls a.order m.0 (held w.0 m.0 m.1)) ∙ ap (λ u. log_of u ls) (own m.0.disk l.disk (sym (among_from ls w.0 m.0 m.1).named ∙ named)) ∙ log_found ls a.order l i) in
          filter_map-In (log_among ls) t.volumes w.0 l at (m.1 ∙ ap Some same)
        where
          own : (u v : List ℕ) → Cbt u ≡ Cbt v → u ≡ v
          own u v e = cc

          held : (r : Row) (k : Log) → log_among ls r ≡ Some k → In k ls
          held r k e = in_memory ls r k e

      back : (l : Log) → In l (filter_map (log_among ls) t.volumes) → In l ls
      back l i = let w = In-filter_map (log_among ls) t.volumes l i in in_memory ls w.0 l w.2
