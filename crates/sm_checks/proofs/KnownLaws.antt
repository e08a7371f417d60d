-- The entries of a table in which no leaf is being folded.
use Rattle.std.proofs.Common.{◌≡◌, ◌≢◌, ℕ, inl, true, List, [], ◌∷◌, Some, refl, sym, subst}
use Rattle.std.proofs.lemmas.Bool.{true≢false}
use Rattle.std.proofs.lemmas.Option.{none-some, same_Some}
use Rattle.common_laws.specs.Lists.{In}
use Rattle.common_laws.proofs.Lists.{In-filter, In-map}
use Rattle.sm_base.specs.declared.names.Name.{Name}
use Rattle.sm_base.specs.declared.names.Name.TheVariants.{Coalesce, Relink, Leaf}
use Rattle.vg_meta.specs.Tables.{Row, VolumeTable, names_of}
use Rattle.sm_standing.specs.Entries.{folding, head, is_folding}
use Rattle.sm_standing.specs.Plain.{IsKnown, is_known, is_known_name}
use Rattle.sm_standing.proofs.PlainDisks.{all-In}

pub head_in : (ns : List Name) (n : Name) → head ns ≡ Some n → In n ns
head_in [] n is = absurd (none-some n is)
head_in (m ∷ ns) n is = inl (sym (same_Some m n is))

-- what is known of the entry of a copy or of a link
pub record IsFirstFolding (t : VolumeTable) (n : Name) : Type 0 where
  pub row : Row
  pub there : In row t.volumes
  pub named : row.name ≡ n
  pub folds : is_folding n ≡ true
  pub known : is_known_name n ≡ true

pub first_folding : (t : VolumeTable) (n : Name) → IsKnown t → head (folding t) ≡ Some n → IsFirstFolding t n
first_folding t n known is =
    let k = In-filter is_folding (names_of t.volumes) n (head_in (folding t) n is) in
    let r = In-map (λ (r : Row). r.name) t.volumes n k.0 in
    record {
      row = r.0;
      there = r.1;
      named = sym r.2;
      folds = k.1;
      known = subst (λ m. is_known_name m ≡ true) (sym r.2) (all-In (λ (x : Row). is_known x ≡ true) t.volumes r.0 known r.1);
    }

-- the entry is of one of three kinds
pub no_folding : (t : VolumeTable) (n : Name) → head (folding t) ≡ Some n → ((c p : List ℕ) → n ≢ Coalesce c p) → ((c p : List ℕ) → n ≢ Relink c p) → ((l p : List ℕ) → n ≢ Leaf l p) → ⊥
no_folding t n is copy link leaf = by n copy link leaf (In-filter is_folding (names_of t.volumes) n (head_in (folding t) n is)).1
  where
    by : (n : Name) → ((c p : List ℕ) → n ≢ Coalesce c p) → ((c p : List ℕ) → n ≢ Relink c p) → ((l p : List ℕ) → n ≢ Leaf l p) → is_folding n ≡ true → ⊥
    by (Coalesce c p) copy link leaf folds = copy c p refl
    by (Relink c p) copy link leaf folds = link c p refl
    by (Leaf l p) copy link leaf folds = leaf l p refl
    by _ copy link leaf folds = true≢false (sym folds)
