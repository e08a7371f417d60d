-- Which names the volumes of a fork have while it is undone, and behind it, as the table says.
use Rattle.std.proofs.Common.{◌≡◌, ◌⊎◌, inl, inr, ℕ, Bool, true, false, not, ◌&&◌, ◌||◌, List, [], ◌∷◌, Some, None, is_some, is_none, refl, sym, ap, ap₂, ◌∙◌, subst}
use Rattle.sm_base.specs.declared.names.Name.{Name}
use Rattle.sm_base.specs.declared.names.Name.TheVariants.{Vhd, Raw, Old, Clone}
use Rattle.common_laws.proofs.Options.{option_cases}
use Rattle.std.proofs.lemmas.Bool.{true≢false, or_right}
use Rattle.vg_meta.specs.Tables.{VolumeTable, Row, rows}
use Rattle.sm_standing.specs.Apart.{is_apart}
use Rattle.sm_standing.specs.Checks.{has_twin}
use Rattle.sm_standing.specs.Entries.{image_with, is_among, is_fork_begun, is_fork_made, is_filled, is_hidden, is_there, is_visible_or_gone, making, of_row}
use Rattle.sm_standing.specs.Forks.{forked}
use Rattle.sm_standing.specs.Standing.{stands_plainly}
use Rattle.sm_standing.proofs.ForkLaws.{base_among, disk_among, twin_among}
use Rattle.sm_standing.proofs.ForkParts.{IsForkPart}
use Rattle.sm_standing.proofs.ForkTables.{IsForkStage, IsNew}

-- one of the three UUIDs of a fork
abbrev pub IsThree : List ℕ → List ℕ → List ℕ → List ℕ → Type 0
IsThree disk base twin u = (u ≡ disk) ⊎ ((u ≡ base) ⊎ (u ≡ twin))

-- what the names of a fork's volumes say, where the disk's image has the name m, and had the name n before. Under the disk's name it is shown, and no
-- other image has one of the three UUIDs. Under the base's name the new images may be there
pub record AreNamed (disk base twin : List ℕ) (n : Name) (v : VolumeTable) (m : Name) (hidden : Bool) : Type 0 where
  pub speaks : is_apart (forked disk base twin) m ≡ false
  pub alone : has_twin v m ≡ false
  pub new_alone : (x : Name) → m ≡ n → (m ≡ Vhd base) ⊎ (m ≡ Raw base) → (x ≡ Vhd disk) ⊎ (x ≡ Vhd twin) → has_twin v x ≡ false
  pub begun : hidden ≡ false → (m ≡ Vhd disk) ⊎ (m ≡ Raw disk) → is_fork_begun v disk base twin ≡ true
  pub not_made : hidden ≡ false → (m ≡ Vhd disk) ⊎ (m ≡ Raw disk) → is_fork_made v disk base twin ≡ false
  pub no_base : hidden ≡ false → (m ≡ Vhd disk) ⊎ (m ≡ Raw disk) → image_with v base ≡ None
  pub disk_stands : hidden ≡ false → (m ≡ Vhd disk) ⊎ (m ≡ Raw disk) → stands_plainly v disk ≡ Some m
  pub base_fails : hidden ≡ false → (m ≡ Vhd disk) ⊎ (m ≡ Raw disk) → stands_plainly v base ≡ None
  pub twin_fails : hidden ≡ false → (m ≡ Vhd disk) ⊎ (m ≡ Raw disk) → stands_plainly v twin ≡ None
  pub made : m ≡ n → (m ≡ Vhd base) ⊎ (m ≡ Raw base) → is_fork_made v disk base twin ≡ true
  pub has_base : m ≡ n → (m ≡ Vhd base) ⊎ (m ≡ Raw base) → image_with v base ≡ Some m

module _ (disk base twin : List ℕ) where
  abbrev us : List (List ℕ)
  us = forked disk base twin

  abbrev e : Name
  e = Clone disk base twin

  abbrev Three : List ℕ → Type 0
  Three = IsThree disk base twin

  among : (u : List ℕ) → Three u → is_among us u ≡ true
  among u (inl is) = ap (is_among us) is ∙ disk_among disk base twin
  among u (inr (inl is)) = ap (is_among us) is ∙ base_among disk base twin
  among u (inr (inr is)) = ap (is_among us) is ∙ twin_among disk base twin

  pub vhd_speaks : (u : List ℕ) → Three u → is_apart us (Vhd u) ≡ false
  vhd_speaks u k = ap (λ b. not (b || false)) (among u k)

  pub raw_speaks : (u : List ℕ) → Three u → is_apart us (Raw u) ≡ false
  raw_speaks u k = ap (λ b. not (b || false)) (among u k)

  old_speaks : (u : List ℕ) → Three u → is_apart us (Old u) ≡ false
  old_speaks u k = ap (λ b. not (b || false)) (among u k)

  pub entry_speaks : is_apart us e ≡ false
  entry_speaks = ap (λ b. not (b || (is_among us base || (is_among us twin || false)))) (disk_among disk base twin)

  pub new_speaks : (x : Name) → (x ≡ Vhd disk) ⊎ (x ≡ Vhd twin) → is_apart us x ≡ false
  new_speaks x (inl is) = ap (is_apart us) is ∙ vhd_speaks disk (inl refl)
  new_speaks x (inr is) = ap (is_apart us) is ∙ vhd_speaks twin (inr (inr refl))

  module _ (t : VolumeTable) (n : Name) (σ : IsForkStage t disk base twin n) where
    -- a base is none of the new images
    pub base_old : (x : Name) → (x ≡ Vhd base) ⊎ (x ≡ Raw base) → (x ≡ Vhd disk) ⊎ (x ≡ Vhd twin) → ⊥
    base_old x (inl is) (inl k) = σ.disk_base (let z = sym k ∙ is in cc)
    base_old x (inl is) (inr k) = σ.base_twin (let z = sym is ∙ k in cc)
    base_old x (inr is) (inl k) = let z = sym k ∙ is in cc
    base_old x (inr is) (inr k) = let z = sym k ∙ is in cc

    module _ (count : ℕ) (v : VolumeTable) (m : Name) (hidden : Bool) (p : IsForkPart count t disk base twin n σ.own v m hidden) where
      -- a name that is none of these is not there
      absent : (x : Name) → is_apart us x ≡ false → (x ≡ e → ⊥) → (x ≡ m → ⊥) → ((r : Row) → IsNew disk base twin m x hidden r → ⊥) → rows v x ≡ None
      absent x speaks no_entry no_image no_new = by (option_cases (rows v x))
        where
          of : (r : Row) → ((x ≡ e) × (making v ≡ e ∷ [])) ⊎ ((x ≡ m) ⊎ (IsNew disk base twin m x hidden r × (m ≡ n) × (rows t x ≡ Some r))) → ⊥
          of r (inl k) = no_entry k.0
          of r (inr (inl is)) = no_image is
          of r (inr (inr k)) = no_new r k.0

          by : (rows v x ≡ None) ⊎ ((r : Row) × (rows v x ≡ Some r)) → rows v x ≡ None
          by (inl is) = is
          by (inr k) = absurd (of k.0 (p.volumes x k.0 k.1 speaks))

      raw_new : (u : List ℕ) (r : Row) → IsNew disk base twin m (Raw u) hidden r → ⊥
      raw_new u r new = by new.name
        where
          by : (Raw u ≡ Vhd disk) ⊎ (Raw u ≡ Vhd twin) → ⊥
          by (inl is) = let z = is in cc
          by (inr is) = let z = is in cc

      old_new : (u : List ℕ) (r : Row) → IsNew disk base twin m (Old u) hidden r → ⊥
      old_new u r new = by new.name
        where
          by : (Old u ≡ Vhd disk) ⊎ (Old u ≡ Vhd twin) → ⊥
          by (inl is) = let z = is in cc
          by (inr is) = let z = is in cc

      base_new : (r : Row) → IsNew disk base twin m (Vhd base) hidden r → ⊥
      base_new r new = base_old (Vhd base) (inl refl) new.name

      -- the image's name is one of four
      old_m : (u : List ℕ) → Old u ≡ m → ⊥
      old_m u is = by p.place
        where
          by : ((hidden ≡ false) × ((m ≡ Vhd disk) ⊎ (m ≡ Raw disk))) ⊎ ((m ≡ n) × ((m ≡ Vhd base) ⊎ (m ≡ Raw base))) → ⊥
          by (inl (_, inl at)) = let z = is ∙ at in cc
          by (inl (_, inr at)) = let z = is ∙ at in cc
          by (inr (_, inl at)) = let z = is ∙ at in cc
          by (inr (_, inr at)) = let z = is ∙ at in cc

      no_old : (u : List ℕ) → Three u → rows v (Old u) ≡ None
      no_old u k = absent (Old u) (old_speaks u k) (λ is. (let z = is in cc)) (old_m u) (old_new u)

      raw_twin_m : Raw twin ≡ m → ⊥
      raw_twin_m is = by p.place
        where
          by : ((hidden ≡ false) × ((m ≡ Vhd disk) ⊎ (m ≡ Raw disk))) ⊎ ((m ≡ n) × ((m ≡ Vhd base) ⊎ (m ≡ Raw base))) → ⊥
          by (inl (_, inl at)) = let z = is ∙ at in cc
          by (inl (_, inr at)) = σ.disk_twin (let z = is ∙ at in cc)
          by (inr (_, inl at)) = let z = is ∙ at in cc
          by (inr (_, inr at)) = σ.base_twin (let z = is ∙ at in cc)

      no_raw_twin : rows v (Raw twin) ≡ None
      no_raw_twin = absent (Raw twin) (raw_speaks twin (inr (inr refl))) (λ is. (let z = is in cc)) raw_twin_m (raw_new twin)

      image_row : rows v m ≡ Some (record { name = m; hidden = hidden; fresh = false; extents = σ.own.extents })
      image_row = p.there ∙ ap (λ f. Some (record { name = m; hidden = hidden; fresh = f; extents = σ.own.extents })) σ.filled

      row_as : (x : Name) → m ≡ x → rows v x ≡ Some (record { name = m; hidden = hidden; fresh = false; extents = σ.own.extents })
      row_as x is = ap (rows v) (sym is) ∙ image_row

      -- where the image has the disk's name, nothing has the base's UUID or the twin's
      module _ (free : hidden ≡ false) (at_disk : (m ≡ Vhd disk) ⊎ (m ≡ Raw disk)) where
        not_hidden : (x : Name) (r : Row) → IsNew disk base twin m x hidden r → ⊥
        not_hidden x r new = true≢false (sym new.over ∙ free)

        base_m : (x : Name) → (x ≡ Vhd base) ⊎ (x ≡ Raw base) → x ≡ m → ⊥
        base_m x k is = by k at_disk
          where
            by : (x ≡ Vhd base) ⊎ (x ≡ Raw base) → (m ≡ Vhd disk) ⊎ (m ≡ Raw disk) → ⊥
            by (inl a) (inl b) = σ.disk_base (let z = sym b ∙ sym is ∙ a in cc)
            by (inr a) (inr b) = σ.disk_base (let z = sym b ∙ sym is ∙ a in cc)
            by (inl a) (inr b) = let z = sym b ∙ sym is ∙ a in cc
            by (inr a) (inl b) = let z = sym b ∙ sym is ∙ a in cc

        twin_m : Vhd twin ≡ m → ⊥
        twin_m is = by at_disk
          where
            by : (m ≡ Vhd disk) ⊎ (m ≡ Raw disk) → ⊥
            by (inl b) = σ.disk_twin (let z = sym b ∙ sym is in cc)
            by (inr b) = let z = sym b ∙ sym is in cc

        no_vhd_base : rows v (Vhd base) ≡ None
        no_vhd_base = absent (Vhd base) (vhd_speaks base (inr (inl refl))) (λ is. (let z = is in cc)) (base_m (Vhd base) (inl refl)) (not_hidden (Vhd base))

        no_raw_base : rows v (Raw base) ≡ None
        no_raw_base = absent (Raw base) (raw_speaks base (inr (inl refl))) (λ is. (let z = is in cc)) (base_m (Raw base) (inr refl)) (not_hidden (Raw base))

        no_vhd_twin : rows v (Vhd twin) ≡ None
        no_vhd_twin = absent (Vhd twin) (vhd_speaks twin (inr (inr refl))) (λ is. (let z = is in cc)) twin_m (not_hidden (Vhd twin))

        no_raw_disk : m ≡ Vhd disk → rows v (Raw disk) ≡ None
        no_raw_disk at = absent (Raw disk) (raw_speaks disk (inl refl)) (λ is. (let z = is in cc)) (λ is. (let z = is ∙ at in cc)) (not_hidden (Raw disk))

        no_vhd_disk : m ≡ Raw disk → rows v (Vhd disk) ≡ None
        no_vhd_disk at = absent (Vhd disk) (vhd_speaks disk (inl refl)) (λ is. (let z = is in cc)) (λ is. (let z = is ∙ at in cc)) (not_hidden (Vhd disk))

        shown_row : (x : Name) → m ≡ x → rows v x ≡ Some (record { name = m; hidden = false; fresh = false; extents = σ.own.extents })
        shown_row x is = row_as x is ∙ ap (λ h. Some (record { name = m; hidden = h; fresh = false; extents = σ.own.extents })) free

        begun_now : is_fork_begun v disk base twin ≡ true
        begun_now = by at_disk
          where
            by : (m ≡ Vhd disk) ⊎ (m ≡ Raw disk) → is_fork_begun v disk base twin ≡ true
            by (inl at) = rw (no_vhd_base, no_raw_base, no_old base (inr (inl refl)), no_vhd_twin, no_raw_twin, no_old twin (inr (inr refl)), shown_row (Vhd disk) at, no_raw_disk at, no_old disk (inl refl)) refl
            by (inr at) = rw (no_vhd_base, no_raw_base, no_old base (inr (inl refl)), no_vhd_twin, no_raw_twin, no_old twin (inr (inr refl)), shown_row (Raw disk) at, no_vhd_disk at, no_old disk (inl refl)) refl

        not_made : is_fork_made v disk base twin ≡ false
        not_made = rw (no_vhd_base, no_raw_base) refl

        no_base_image : image_with v base ≡ None
        unfolding image_with
        no_base_image = rw (no_vhd_base, no_raw_base) refl

        stands_shown : stands_plainly v disk ≡ Some m
        stands_shown = by at_disk
          where
            by : (m ≡ Vhd disk) ⊎ (m ≡ Raw disk) → stands_plainly v disk ≡ Some m
            by (inl at) = rw (shown_row (Vhd disk) at) (ap Some (sym at))
            by (inr at) = rw (no_vhd_disk at, shown_row (Raw disk) at) (ap Some (sym at))

        no_base_stands : stands_plainly v base ≡ None
        no_base_stands = rw (no_vhd_base, no_raw_base) refl

        no_twin_stands : stands_plainly v twin ≡ None
        no_twin_stands = rw (no_vhd_twin, no_raw_twin) refl

      -- where it has the base's, the new images may be there
      module _ (here : m ≡ n) (at_base : (m ≡ Vhd base) ⊎ (m ≡ Raw base)) where
        disk_m : Raw disk ≡ m → ⊥
        disk_m is = by at_base
          where
            by : (m ≡ Vhd base) ⊎ (m ≡ Raw base) → ⊥
            by (inl b) = let z = is ∙ b in cc
            by (inr b) = σ.disk_base (let z = is ∙ b in cc)

        no_disk_raw : rows v (Raw disk) ≡ None
        no_disk_raw = absent (Raw disk) (raw_speaks disk (inl refl)) (λ is. (let z = is in cc)) disk_m (raw_new disk)

        other_raw : m ≡ Vhd base → rows v (Raw base) ≡ None
        other_raw at = absent (Raw base) (raw_speaks base (inr (inl refl))) (λ is. (let z = is in cc)) (λ is. (let z = is ∙ at in cc)) (raw_new base)

        other_vhd : m ≡ Raw base → rows v (Vhd base) ≡ None
        other_vhd at = absent (Vhd base) (vhd_speaks base (inr (inl refl))) (λ is. (let z = is in cc)) (λ is. (let z = is ∙ at in cc)) base_new

        -- a new image that is there is visible, and the base hidden
        child : (x : Name) → (x ≡ Vhd disk) ⊎ (x ≡ Vhd twin) → (rows v x ≡ None) ⊎ ((r : Row) × (rows v x ≡ Some r) × (r.hidden ≡ false) × (hidden ≡ true))
        child x k = by (option_cases (rows v x))
          where
            other_entry : (x ≡ Vhd disk) ⊎ (x ≡ Vhd twin) → x ≡ e → ⊥
            other_entry (inl is) at = let z = sym is ∙ at in cc
            other_entry (inr is) at = let z = sym is ∙ at in cc

            of : (r : Row) → rows v x ≡ Some r → ((x ≡ e) × (making v ≡ e ∷ [])) ⊎ ((x ≡ m) ⊎ (IsNew disk base twin m x hidden r × (m ≡ n) × (rows t x ≡ Some r))) → (r : Row) × (rows v x ≡ Some r) × (r.hidden ≡ false) × (hidden ≡ true)
            of r at (inl z) = absurd (other_entry k z.0)
            of r at (inr (inl is)) = absurd (base_old x (subst (λ y. (y ≡ Vhd base) ⊎ (y ≡ Raw base)) (sym is) at_base) k)
            of r at (inr (inr z)) = let one = z.0 in (r, at, one.shown, one.over)

            by : (rows v x ≡ None) ⊎ ((r : Row) × (rows v x ≡ Some r)) → (rows v x ≡ None) ⊎ ((r : Row) × (rows v x ≡ Some r) × (r.hidden ≡ false) × (hidden ≡ true))
            by (inl is) = inl is
            by (inr z) = inr (of z.0 z.1 (p.volumes x z.0 z.1 (new_speaks x k)))

        filled_base : (is_filled v (Vhd base) || is_filled v (Raw base)) ≡ true
        filled_base = by at_base
          where
            by : (m ≡ Vhd base) ⊎ (m ≡ Raw base) → (is_filled v (Vhd base) || is_filled v (Raw base)) ≡ true
            by (inl at) = rw (row_as (Vhd base) at) refl
            by (inr at) = rw (other_vhd at, row_as (Raw base) at) refl

        hidden_base : hidden ≡ true → (is_hidden v (Vhd base) || is_hidden v (Raw base)) ≡ true
        hidden_base over = by at_base
          where
            as_hidden : (x : Name) → m ≡ x → rows v x ≡ Some (record { name = m; hidden = true; fresh = false; extents = σ.own.extents })
            as_hidden x is = row_as x is ∙ ap (λ h. Some (record { name = m; hidden = h; fresh = false; extents = σ.own.extents })) over

            by : (m ≡ Vhd base) ⊎ (m ≡ Raw base) → (is_hidden v (Vhd base) || is_hidden v (Raw base)) ≡ true
            by (inl at) = rw (as_hidden (Vhd base) at) refl
            by (inr at) = rw (other_vhd at, as_hidden (Raw base) at) refl

        visible_child : (x : Name) → (rows v x ≡ None) ⊎ ((r : Row) × (rows v x ≡ Some r) × (r.hidden ≡ false) × (hidden ≡ true)) → is_visible_or_gone v x ≡ true
        visible_child x (inl none) = ap (λ o. is_none o || of_row (λ r. not r.hidden) o) none
        visible_child x (inr k) = ap (λ o. is_none o || of_row (λ r. not r.hidden) o) k.1 ∙ ap not k.2

        neither : (rows v (Vhd disk) ≡ None) ⊎ ((r : Row) × (rows v (Vhd disk) ≡ Some r) × (r.hidden ≡ false) × (hidden ≡ true)) → (rows v (Vhd twin) ≡ None) ⊎ ((r : Row) × (rows v (Vhd twin) ≡ Some r) × (r.hidden ≡ false) × (hidden ≡ true))
            → ((not (is_there v (Vhd disk)) && not (is_there v (Vhd twin))) || (is_hidden v (Vhd base) || is_hidden v (Raw base))) ≡ true
        neither (inl a) (inl b) = ap₂ (λ x y. (not (is_some x) && not (is_some y)) || (is_hidden v (Vhd base) || is_hidden v (Raw base))) a b
        neither (inr k) b = or_right (not (is_there v (Vhd disk)) && not (is_there v (Vhd twin))) (is_hidden v (Vhd base) || is_hidden v (Raw base)) (hidden_base k.3)
        neither (inl a) (inr k) = or_right (not (is_there v (Vhd disk)) && not (is_there v (Vhd twin))) (is_hidden v (Vhd base) || is_hidden v (Raw base)) (hidden_base k.3)

        made_now : is_fork_made v disk base twin ≡ true
        made_now =
            let on_disk = child (Vhd disk) (inl refl) in
            let on_twin = child (Vhd twin) (inr refl) in
            ap (λ b. b && (not (is_there v (Raw disk)) && (not (is_there v (Raw twin)) && (is_visible_or_gone v (Vhd disk) && (is_visible_or_gone v (Vhd twin)
            && ((not (is_there v (Vhd disk)) && not (is_there v (Vhd twin))) || (is_hidden v (Vhd base) || is_hidden v (Raw base)))))))) filled_base
            ∙ ap₂ (λ x y. not (is_some x) && (not (is_some y) && (is_visible_or_gone v (Vhd disk) && (is_visible_or_gone v (Vhd twin)
            && ((not (is_there v (Vhd disk)) && not (is_there v (Vhd twin))) || (is_hidden v (Vhd base) || is_hidden v (Raw base))))))) no_disk_raw no_raw_twin
            ∙ ap₂ (λ x y. x && (y && ((not (is_there v (Vhd disk)) && not (is_there v (Vhd twin))) || (is_hidden v (Vhd base) || is_hidden v (Raw base))))) (visible_child (Vhd disk) on_disk) (visible_child (Vhd twin) on_twin)
            ∙ neither on_disk on_twin

        base_image : image_with v base ≡ Some m
        unfolding image_with
        base_image = by at_base
          where
            by : (m ≡ Vhd base) ⊎ (m ≡ Raw base) → image_with v base ≡ Some m
            by (inl at) = rw (row_as (Vhd base) at) (ap Some (sym at))
            by (inr at) = rw (other_vhd at, row_as (Raw base) at) (ap Some (sym at))

      m_speaks : is_apart us m ≡ false
      m_speaks = by p.place
        where
          by : ((hidden ≡ false) × ((m ≡ Vhd disk) ⊎ (m ≡ Raw disk))) ⊎ ((m ≡ n) × ((m ≡ Vhd base) ⊎ (m ≡ Raw base))) → is_apart us m ≡ false
          by (inl (_, inl at)) = ap (is_apart us) at ∙ vhd_speaks disk (inl refl)
          by (inl (_, inr at)) = ap (is_apart us) at ∙ raw_speaks disk (inl refl)
          by (inr (_, inl at)) = ap (is_apart us) at ∙ vhd_speaks base (inr (inl refl))
          by (inr (_, inr at)) = ap (is_apart us) at ∙ raw_speaks base (inr (inl refl))

      m_alone : has_twin v m ≡ false
      m_alone = by p.place
        where
          by : ((hidden ≡ false) × ((m ≡ Vhd disk) ⊎ (m ≡ Raw disk))) ⊎ ((m ≡ n) × ((m ≡ Vhd base) ⊎ (m ≡ Raw base))) → has_twin v m ≡ false
          by (inl (free, inl at)) = ap (has_twin v) at ∙ ap (λ o. is_some o) (no_raw_disk free (inl at) at)
          by (inl (free, inr at)) = ap (has_twin v) at ∙ ap (λ o. is_some o) (no_vhd_disk free (inr at) at)
          by (inr (here, inl at)) = ap (has_twin v) at ∙ ap (λ o. is_some o) (other_raw here (inl at) at)
          by (inr (here, inr at)) = ap (has_twin v) at ∙ ap (λ o. is_some o) (other_vhd here (inr at) at)

      new_alone : (x : Name) → m ≡ n → (m ≡ Vhd base) ⊎ (m ≡ Raw base) → (x ≡ Vhd disk) ⊎ (x ≡ Vhd twin) → has_twin v x ≡ false
      new_alone x here at_base (inl is) = ap (has_twin v) is ∙ ap (λ o. is_some o) (no_disk_raw here at_base)
      new_alone x here at_base (inr is) = ap (has_twin v) is ∙ ap (λ o. is_some o) no_raw_twin

      pub named_so : AreNamed disk base twin n v m hidden
      named_so = record {
        speaks = m_speaks;
        alone = m_alone;
        new_alone = new_alone;
        begun = begun_now;
        not_made = not_made;
        no_base = no_base_image;
        disk_stands = stands_shown;
        base_fails = no_base_stands;
        twin_fails = no_twin_stands;
        made = made_now;
        has_base = base_image;
      }
