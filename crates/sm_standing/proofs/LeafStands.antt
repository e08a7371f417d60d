-- Where each disk stands once a leaf's folding is ended: in the image in which it stood, under the name that this has then.
use Rattle.std.proofs.Common.{◌≡◌, ◌≢◌, inl, ℕ, Bool, true, false, cond, List, [], ◌∷◌, Option, Some, None, is_some, refl, sym, ap, ◌∙◌}
use Rattle.std.proofs.Math.Path.{fun_ext}
use Rattle.std.proofs.lemmas.Option.{none-some, same_Some}
use Rattle.common_laws.specs.Lists.{◌>>=◌}
use Rattle.sm_base.specs.declared.names.Name.{Name}
use Rattle.sm_base.specs.declared.names.Name.TheVariants.{Vhd, Leaf}
use Rattle.vg_meta.specs.Tables.{VolumeTable, IsTable, name_eq}
use Rattle.vg_meta.proofs.NameLaws.{name_eq-false, name_eq-true}
use Rattle.sm_standing.specs.Checks.{fault_of}
use Rattle.sm_standing.specs.Entries.{folding, head, is_leaf_renamed}
use Rattle.sm_standing.specs.Leaves.{ended_from}
use Rattle.sm_standing.specs.Opened.{ended}
use Rattle.sm_standing.specs.Outlines.{HasImages, Outline}
use Rattle.sm_standing.specs.Standing.{standing_volume}
use Rattle.sm_standing.proofs.LeafCorner.{cut_stands}
use Rattle.sm_standing.proofs.LeafEnds.{end_last, end_of, named_by}
use Rattle.sm_standing.proofs.LeafRename.{moved, rename_stands, rename_still, stands_some}
use Rattle.sm_standing.proofs.LeafRuns.{IsCarried, at}
use Rattle.sm_standing.proofs.LeafStages.{stands_near}
use Rattle.sm_standing.proofs.LeafSteady.{steady_stands}
use Rattle.sm_standing.proofs.PlainKept.{sound_all}
use Rattle.sm_standing.proofs.SwapLaws.{leaf_among, leaf_stands}
use Rattle.sm_standing.proofs.UndoneLaws.{enlarged_or_not, undone_stands}

module _ (count : ℕ) (x : Outline) (sound : fault_of x ≡ None) (table : IsTable count x.table) (homes : HasImages x) (leaf parent : List ℕ) (one : folding x.table ≡ Leaf leaf parent ∷ []) where
  abbrev t : VolumeTable
  t = x.table

  record Stands (v : VolumeTable) (from : Name → Option Name) : Type 0 where
    image : (u : List ℕ) → (standing_volume v u >>= from) ≡ standing_volume t u
    others : (u : List ℕ) → u ≢ leaf → standing_volume v u ≡ standing_volume t u
    some : (u : List ℕ) → is_some (standing_volume v u) ≡ is_some (standing_volume t u)

  bind_some : (o : Option Name) → (o >>= Some) ≡ o
  bind_some None = refl
  bind_some (Some n) = refl

  where_it_stood : (v : VolumeTable) → ((u : List ℕ) → standing_volume v u ≡ standing_volume t u) → Stands v Some
  where_it_stood v same = record { image = λ u. bind_some (standing_volume v u) ∙ same u; others = λ u other. same u; some = λ u. ap is_some (same u) }

  carried : IsCarried count x leaf parent Stands
  carried = record {
    first = where_it_stood t (λ u. refl);
    cut = λ extents w. where_it_stood _ (cut_stands x table homes sound parent extents w);
    without = λ extents w. where_it_stood _ (undone_stands t parent extents w _);
    steady = λ v w from p k held. record {
      image = λ u. ap (λ o. o >>= from) (steady_stands k u) ∙ held.image u;
      others = λ u other. steady_stands k u ∙ held.others u other;
      some = λ u. ap is_some (steady_stands k u) ∙ held.some u;
    };
    named = λ v p entry stage free held. record {
      image = λ u. rename_stands (at count x leaf parent v Some) p.table p.homes p.sound leaf parent entry stage free u ∙ sym (bind_some (standing_volume v u)) ∙ held.image u;
      others = λ u other. rename_still (at count x leaf parent v Some) p.table p.homes p.sound leaf parent entry stage free u other ∙ held.others u other;
      some = λ u. stands_some (at count x leaf parent v Some) p.table p.homes p.sound leaf parent entry stage free u ∙ held.some u;
    };
  }

  last : Stands (ended t) (end_of count x sound table homes leaf parent one Stands carried).from
  last = (end_last count x sound table homes leaf parent one Stands carried).1

  -- in the same image
  pub ended_stands : (u : List ℕ) → (standing_volume (ended t) u >>= ended_from t) ≡ standing_volume t u
  ended_stands u =
      let k = end_of count x sound table homes leaf parent one Stands carried in ap (λ f. standing_volume (ended t) u >>= f) (sym (fun_ext k.as_ended)) ∙ last.image u

  -- the same UUIDs are disks
  pub ended_stands_some : (u : List ℕ) → is_some (standing_volume (ended t) u) ≡ is_some (standing_volume t u)
  ended_stands_some u = last.some u

  -- any but the leaf's stands where it stood
  pub ended_stands_other : (u : List ℕ) → u ≢ leaf → standing_volume (ended t) u ≡ standing_volume t u
  ended_stands_other u other = last.others u other

  -- so does the leaf's, where it was not renamed
  pub ended_stands_same : is_leaf_renamed t leaf parent ≡ false → (u : List ℕ) → standing_volume (ended t) u ≡ standing_volume t u
  ended_stands_same not_renamed u =
      let named : ended_from t ≡ Some = sym (fun_ext (λ n. named_by count x sound table homes leaf parent one n false not_renamed)) in
      sym (ap (λ f. standing_volume (ended t) u >>= f) named ∙ bind_some (standing_volume (ended t) u)) ∙ ended_stands u

  -- where it was, it stood in the parent, and stands in the image of its name
  pub stood_in_parent : is_leaf_renamed t leaf parent ≡ true → standing_volume t leaf ≡ Some (Vhd parent)
  stood_in_parent stage = let s = sound_all x sound in stands_near x homes sound leaf parent one (enlarged_or_not count t table s.one_entry s.at_stage) t leaf refl (leaf_among leaf parent) ∙ leaf_stands t leaf parent (Vhd parent) (inl (ap head one, stage, refl))

  pub ended_stands_leaf : is_leaf_renamed t leaf parent ≡ true → standing_volume (ended t) leaf ≡ Some (Vhd leaf)
  ended_stands_leaf stage =
      by (standing_volume (ended t) leaf) refl
      (ap (λ f. standing_volume (ended t) leaf >>= f) (fun_ext (λ n. named_by count x sound table homes leaf parent one n true stage)) ∙ ended_stands leaf ∙ stood_in_parent stage)
    where
      named : (y : Name) (l p : Bool) → name_eq y (Vhd leaf) ≡ l → name_eq y (Vhd parent) ≡ p → cond l (Some (Vhd parent)) (cond p None (Some y)) ≡ Some (Vhd parent) → y ≡ Vhd leaf
      named y true p is_l is_p h = name_eq-true y (Vhd leaf) is_l
      named y false true is_l is_p h = absurd (none-some (Vhd parent) h)
      named y false false is_l is_p h = absurd (name_eq-false y (Vhd parent) is_p (same_Some y (Vhd parent) h))

      by : (o : Option Name) → standing_volume (ended t) leaf ≡ o → (o >>= moved leaf parent) ≡ Some (Vhd parent) → standing_volume (ended t) leaf ≡ Some (Vhd leaf)
      by None is h = absurd (none-some (Vhd parent) h)
      by (Some y) is h = is ∙ ap Some (named y (name_eq y (Vhd leaf)) (name_eq y (Vhd parent)) refl refl h)
