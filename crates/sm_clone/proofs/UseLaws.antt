-- The volumes that attached disks use, once a fork is made: the base and the disk's new image fit among them.
use Rattle.std.proofs.Common.{◌≡◌, ◌≢◌, ⊎_elim, inl, inr, zero, suc, ℕ, ◌<◌, ◌≤◌, Bool, true, false, cond, List, [], ◌∷◌, map, length, Option, Some, None, is_some, refl, sym, ap, ◌∙◌, subst, arith}
use Rattle.std.proofs.Math.Logic.{∥∥₁_elim}
use Rattle.std.proofs.Props.{props}
use Rattle.std.specs.List.{filter, list_any}
use Rattle.std.proofs.lemmas.Bool.{true≢false}
use Rattle.std.proofs.lemmas.List.{length-map}
use Rattle.common_laws.specs.Lists.{In}
use Rattle.common_laws.proofs.Lists.{In-map, In-map_at, find-some}
use Rattle.sm_base.specs.Names.{base_uuid}
use Rattle.sm_base.specs.declared.names.Name.{Name}
use Rattle.sm_base.specs.declared.names.Name.TheVariants as name
use Rattle.vg_meta.specs.Tables.{VolumeTable}
use Rattle.vg_volumes.specs.Sites.{Site}
use Rattle.vhd_chain.specs.declared.rows.TreeRow.{TreeRow}
use Rattle.vhd_chain.specs.Trees.{row_name, tree_row}
use Rattle.sm_machine.specs.Shapes.{Attachment, ImageRow, chain, chain_limit, disk_image, image_limit, image_uuid, is_image_of, reads_through, refs, renamed, same_image}
use Rattle.sm_machine.specs.WellFormed.{IsWellFormed, is_image_name}
use Rattle.sm_machine.proofs.Chains.{parents_there}
use Rattle.sm_machine.proofs.ImageNames.{same_image-sound}
use Rattle.sm_refs.specs.Attached.{Attached, HoldsChain, count_of}
use Rattle.sm_refs.proofs.CallerLemmas.{counted_forked}
use Rattle.sm_ready.specs.Known.{Known, machine_row, shape_in}
use Rattle.sm_ready.specs.Orderly.{IsOrderly}
use Rattle.sm_ready.specs.Ready.{IsTidy}
use Rattle.sm_ready.proofs.CauseLaws.{vhd_uuid}
use Rattle.sm_ready.proofs.Orders.{named_row}
use Rattle.sm_ready.proofs.RowLaws.{tree_found}
use Rattle.sm_ready.proofs.OnceLaws.{any_In}
use Rattle.sm_ready.proofs.ChainNames.{rest_there}
use Rattle.sm_ready.proofs.UseLaws.{In_has, has_In}
use Rattle.sm_clone.specs.Forking.{HasUseRoom, Passes, base_name, fork_of}
use Rattle.sm_clone.specs.declared.forks.Fork.{Fork}
use Rattle.sm_clone.proofs.PassedLaws.{makes_two, new, own, own_is}

-- once the base has its count, the disk's new image still fits
pub room_next : (f : Fork) (a b : Attached) → HasUseRoom f a → a.room ≤ b.room → ((n : Name) → n ≢ base_name f → count_of b n ≡ count_of a n) → HoldsChain b.counts (name.Vhd f.disk ∷ []) b.room
room_next f a b r more others = record {
  names = r.room.names;
  few = omega (arith, r.room.few, more);
  counted = counted_forked r.room.names (base_name f) a b r.room.counted (r.room.added (base_name f) (In_has (base_name f) (base_name f ∷ name.Vhd f.disk ∷ []) (inl refl))) others;
  added = λ v h. r.room.added v (In_has v (base_name f ∷ name.Vhd f.disk ∷ []) (inr (has_In v (name.Vhd f.disk ∷ []) h)));
}

-- an image that is used is there
used_there : (s : Site) (t : VolumeTable) (m : Known) (n : Name) → IsWellFormed (shape_in s t m) → 0 < refs n (shape_in s t m) → In n (map row_name m.rows)
unfolding shape_in refs
used_there s t m n w some = by (shape_in s t m).attached some
  where
    through : (u : List ℕ) (x : Option ImageRow) → disk_image u (shape_in s t m) ≡ x → reads_through n (shape_in s t m) u ≡ true → In n (map row_name m.rows)
    through u None is e = absurd (true≢false (sym e ∙ ap (λ (i : Option ImageRow). elim i as (λ _. Bool) [ None ↦ false | Some y ↦ list_any (same_image n) (chain chain_limit y.name (map machine_row m.rows)) ]) is))
    through u (Some i) is e =
        let f = find-some (is_image_of u) (map machine_row m.rows) i is in
        let any = sym (ap (λ (i : Option ImageRow). elim i as (λ _. Bool) [ None ↦ false | Some y ↦ list_any (same_image n) (chain chain_limit y.name (map machine_row m.rows)) ]) is) ∙ e in
        let x = any_In (same_image n) (chain chain_limit i.name (map machine_row m.rows)) any in
        let y = rest_there (map machine_row m.rows) (λ n p there is. parents_there (map machine_row m.rows) w.parents n p there is) chain_limit (Some i.name)
        (λ k is. (i, f.0, (let same = is in cc))) x.0 x.1 in
        let q = In-map machine_row m.rows y.0 y.1 in
        subst (λ k. In k (map row_name m.rows)) (sym (ap (λ (z : ImageRow). z.name) q.2) ∙ y.2 ∙ sym (same_image-sound n x.0 x.2)) (In-map_at row_name m.rows q.0 q.1)

    by : (xs : List Attachment) → 0 < length (filter (λ a. reads_through n (shape_in s t m) a.disk) xs) → In n (map row_name m.rows)
    by [] h = absurd (omega (arith, h))
    by (a ∷ xs) h = pick (reads_through n (shape_in s t m) a.disk) refl (by xs) h
      where
        pick : (b : Bool) → reads_through n (shape_in s t m) a.disk ≡ b → (0 < length (filter (λ a. reads_through n (shape_in s t m) a.disk) xs) → In n (map row_name m.rows))
            → 0 < length (cond b (a ∷ filter (λ a. reads_through n (shape_in s t m) a.disk) xs) (filter (λ a. reads_through n (shape_in s t m) a.disk) xs)) → In n (map row_name m.rows)
        pick true e further h = through a.disk (disk_image a.disk (shape_in s t m)) refl e
        pick false e further h = further h

-- the UUID of an image that was given another name of its kind
pub based : (n : Name) (v : List ℕ) → is_image_name n ≡ true → image_uuid (renamed n v) ≡ v
unfolding is_image_name renamed image_uuid
based (name.Vhd u) v e = refl
based (name.Raw u) v e = refl
based _ v e = cc

module _ (s : Site) (t : VolumeTable) (m : Known) (u twin : List ℕ) (read_only : Bool) (o : IsOrderly s t m) (tidy : IsTidy t m) (passes : Passes s t m u twin read_only) where
  abbrev f : Fork
  f = fork_of passes.number m.rows u twin

  abbrev row : TreeRow
  row = (own s t m u twin read_only o tidy passes).row

  -- no image has the base's UUID
  pub no_base_row : (r : TreeRow) → In r m.rows → image_uuid (row_name r) ≡ base_uuid passes.number → ⊥
  unfolding shape_in
  no_base_row r i is = ∥∥₁_elim passes.orderly.well_formed (hlevel props) (λ w.
      let small = (new s t m u twin read_only o tidy passes).unspent in
      let less : passes.number < passes.number = w.bases (machine_row r) passes.number (In-map_at machine_row m.rows r i) (omega (arith, small)) is in omega (arith, less))

  pub base_uuid_is : image_uuid (base_name f) ≡ base_uuid passes.number
  base_uuid_is = based f.own (base_uuid passes.number)
      (subst (λ n. is_image_name n ≡ true) (sym (own_is s t m u twin read_only o tidy passes)) (named_row s t m row o (own s t m u twin read_only o tidy passes).there))

  -- nor the base's name
  not_named : (n : Name) → In n (map row_name m.rows) → n ≢ base_name f
  not_named n i is = let r = In-map row_name m.rows n i in no_base_row r.0 r.1 (ap image_uuid (sym r.2 ∙ is) ∙ base_uuid_is)

  unused : (n : Name) → (In n (map row_name m.rows) → ⊥) → count_of m.attached n ≡ 0
  unused n away = by (count_of m.attached n) refl
    where
      by : (k : ℕ) → count_of m.attached n ≡ k → k ≡ 0
      by zero is = refl
      by (suc k) is = ∥∥₁_elim o.well_formed (hlevel props) (λ w. absurd (away (used_there s t m n w (subst (λ j. 0 < j) (sym is ∙ o.counts n) (omega arith)))))

  -- a raw disk has no image of the other name
  pub no_leaf : f.own ≢ name.Vhd u → In (name.Vhd u) (map row_name m.rows) → ⊥
  unfolding shape_in
  no_leaf other i = ∥∥₁_elim o.well_formed (hlevel props) (λ w.
      let r = In-map row_name m.rows (name.Vhd u) i in
      other (ap (λ (x : Option TreeRow). cond (is_some x) (name.Vhd u) (name.Raw u)) (ap (tree_row m.rows) r.2 ∙ tree_found m.rows r.0 w.one_image r.1)))

  own_named : In f.own (map row_name m.rows)
  own_named = subst (λ n. In n (map row_name m.rows)) (sym (own_is s t m u twin read_only o tidy passes)) (In-map_at row_name m.rows row (own s t m u twin read_only o tidy passes).there)

  pub use_room : image_limit ≤ m.attached.room → HasUseRoom f m.attached
  use_room room = record {
    room = record {
      names = base_name f ∷ name.Vhd u ∷ map row_name m.rows;
      few = let few = (new s t m u twin read_only o tidy passes).few in omega (arith, few, makes_two u twin read_only, room, length-map m.rows row_name);
      counted = λ n some. ∥∥₁_elim o.well_formed (hlevel props) (λ w. In_has n (base_name f ∷ name.Vhd u ∷ map row_name m.rows) (inr (inr (used_there s t m n w (subst (λ k. 0 < k) (o.counts n) some)))));
      added = λ n h. In_has n (base_name f ∷ name.Vhd u ∷ map row_name m.rows) (⊎_elim (λ is. inl is) (λ j. inr (⊎_elim (λ is. inl is) (λ none. absurd none) j)) (has_In n (base_name f ∷ name.Vhd u ∷ []) h));
    };
    no_base = unused (base_name f) (λ i. not_named (base_name f) i refl);
    no_leaf = λ other. unused (name.Vhd u) (no_leaf other);
    apart = λ is. not_named f.own own_named (sym is);
    other = λ is. no_base_row row (own s t m u twin read_only o tidy passes).there ((own s t m u twin read_only o tidy passes).uuid ∙ sym (vhd_uuid u) ∙ ap image_uuid (sym is) ∙ base_uuid_is);
  }
