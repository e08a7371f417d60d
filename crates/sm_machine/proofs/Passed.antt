-- What is known of a command that is not refused.
use Rattle.std.proofs.Common.{◌≡◌, Bool, true, false, List, ◌∷◌, Option, None, refl}
use Rattle.sm_machine.specs.declared.commands.Command.{Command}
use Rattle.common_laws.specs.Lists.{first_some, given}
use Rattle.sm_machine.specs.Shapes.{Shape}
use Rattle.sm_machine.specs.Refusals.{refusal, is_reserved, is_unknown, is_taken, is_in_use, is_not_attached, is_read_only, is_raw_disk, is_tracked, is_untracked, is_out_of_range, is_bad_size, is_shrink, is_deep, is_too_many, is_spent, lacks_space}

-- every test of a refusal fails
pub record IsPassed (s : Shape) (c : Command) : Type 0 where
  pub reserved : is_reserved c ≡ false
  pub unknown : is_unknown s c ≡ false
  pub taken : is_taken s c ≡ false
  pub in_use : is_in_use s c ≡ false
  pub not_attached : is_not_attached s c ≡ false
  pub read_only : is_read_only s c ≡ false
  pub raw_disk : is_raw_disk s c ≡ false
  pub tracked : is_tracked s c ≡ false
  pub untracked : is_untracked s c ≡ false
  pub out_of_range : is_out_of_range s c ≡ false
  pub bad_size : is_bad_size s c ≡ false
  pub shrink : is_shrink s c ≡ false
  pub deep : is_deep s c ≡ false
  pub too_many : is_too_many s c ≡ false
  pub spent : is_spent s c ≡ false
  pub space : lacks_space s c ≡ false

first_none : {A : Type 0} (b : Bool) (x : A) (rest : List (Option A)) → first_some (given b x ∷ rest) ≡ None → (b ≡ false) × (first_some rest ≡ None)
first_none true x rest e = cc
first_none false x rest e = (refl, e)

pub passed : (s : Shape) (c : Command) → refusal s c ≡ None → IsPassed s c
unfolding refusal
passed s c e0 =
    let h1 = first_none (is_reserved c) _ _ e0 in
    let h2 = first_none (is_unknown s c) _ _ h1.1 in
    let h3 = first_none (is_taken s c) _ _ h2.1 in
    let h4 = first_none (is_in_use s c) _ _ h3.1 in
    let h5 = first_none (is_not_attached s c) _ _ h4.1 in
    let h6 = first_none (is_read_only s c) _ _ h5.1 in
    let h7 = first_none (is_raw_disk s c) _ _ h6.1 in
    let h8 = first_none (is_tracked s c) _ _ h7.1 in
    let h9 = first_none (is_untracked s c) _ _ h8.1 in
    let h10 = first_none (is_out_of_range s c) _ _ h9.1 in
    let h11 = first_none (is_bad_size s c) _ _ h10.1 in
    let h12 = first_none (is_shrink s c) _ _ h11.1 in
    let h13 = first_none (is_deep s c) _ _ h12.1 in
    let h14 = first_none (is_too_many s c) _ _ h13.1 in
    let h15 = first_none (is_spent s c) _ _ h14.1 in
    let h16 = first_none (lacks_space s c) _ _ h15.1 in
    record { reserved = h1.0; unknown = h2.0; taken = h3.0; in_use = h4.0; not_attached = h5.0; read_only = h6.0; raw_disk = h7.0; tracked = h8.0; untracked = h9.0; out_of_range = h10.0; bad_size = h11.0; shrink = h12.0; deep = h13.0; too_many = h14.0; spent = h15.0; space = h16.0 }
