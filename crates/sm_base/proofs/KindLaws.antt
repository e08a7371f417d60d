-- The four cases of a name: the records, an image, the log of a tracked disk, or a journal entry.
use Rattle.std.proofs.Common.{◌≡◌, ◌⊎◌, inl, inr, ⊎_elim, true, false, refl}
use Rattle.sm_base.specs.declared.names.Name.{Name}
use Rattle.sm_base.specs.declared.names.Name.TheVariants.{Mgt, Vhd, Raw, Old, Cbt}
use Rattle.sm_base.specs.Kinds.{is_image, is_entry, is_log}

-- what is neither an image nor a log nor an entry has the records
pub kind_cases : (n : Name) → (n ≡ Mgt) ⊎ ((is_image n ≡ true) ⊎ ((is_log n ≡ true) ⊎ (is_entry n ≡ true)))
kind_cases Mgt = inl refl
kind_cases (Vhd u) = inr (inl refl)
kind_cases (Raw u) = inr (inl refl)
kind_cases (Old u) = inr (inl refl)
kind_cases (Cbt u) = inr (inr (inl refl))
kind_cases _ = inr (inr (inr refl))

-- what follows for the records, for each image, for each log and for each entry follows for each name
pub by_kind : {P : Type 0} (n : Name) → (n ≡ Mgt → P) → (is_image n ≡ true → P) → (is_log n ≡ true → P) → (is_entry n ≡ true → P) → P
by_kind n records image log entry = ⊎_elim records (⊎_elim image (⊎_elim log entry)) (kind_cases n)

-- an image is no entry
pub image-no_entry : (n : Name) → is_image n ≡ true → is_entry n ≡ false
image-no_entry Mgt h = refl
image-no_entry (Vhd u) h = refl
image-no_entry (Raw u) h = refl
image-no_entry (Old u) h = refl
image-no_entry _ h = absurd (let e = h in cc)

-- and an entry is no image
pub entry-no_image : (n : Name) → is_entry n ≡ true → is_image n ≡ false
entry-no_image Mgt h = absurd (let e = h in cc)
entry-no_image (Vhd u) h = absurd (let e = h in cc)
entry-no_image (Raw u) h = absurd (let e = h in cc)
entry-no_image (Old u) h = absurd (let e = h in cc)
entry-no_image _ h = refl

-- nor a log
pub entry-no_log : (n : Name) → is_entry n ≡ true → is_log n ≡ false
entry-no_log (Cbt u) h = absurd (let e = h in cc)
entry-no_log Mgt h = refl
entry-no_log (Vhd u) h = refl
entry-no_log (Raw u) h = refl
entry-no_log (Old u) h = refl
entry-no_log _ h = refl
