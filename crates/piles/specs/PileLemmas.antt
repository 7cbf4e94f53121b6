-- The laws of a pile: those of a layer, for each layer in turn.
use Rattle.std.specs.Prelude.{◌≡◌, ℕ, true, List, [], ◌∷◌, ◌≢◌, Contains}
use Rattle.filesystems.specs.Keys.{Key, bytes_key}
use Rattle.filesystems.specs.LayerLemmas.{none_empty, only_member, under, either_sym, either_under}
use Rattle.filesystems.specs.Pairs.{Pairs}
use Rattle.filesystems.specs.PairLemmas.{confused_sym, confused_equal}
use Rattle.piles.specs.declared.any_protection.AnyProtection.{AnyProtection}
use Rattle.piles.specs.AnyProtection.{key_of}
use Rattle.piles.specs.Piles.{together, keys_of}

-- first law
pub together_sym :
    (layers : List AnyProtection) (bottom : Pairs) (a b : List ℕ)
    → together layers bottom a b ≡ true → together layers bottom b a ≡ true
together_sym [] bottom a b e = confused_sym bottom a b e
together_sym (layer ∷ layers) bottom a b e =
    either_sym (key_of layer) (together layers bottom) (together_sym layers bottom) a b e

-- second law

pub keys_of-not_empty : (layers : List AnyProtection) → keys_of layers ≢ []
keys_of-not_empty [] = none_empty bytes_key []
keys_of-not_empty (layer ∷ layers) = none_empty (key_of layer) (keys_of layers)

pub together_under :
    (layers : List AnyProtection) (bottom : Pairs) (key : Key) (a b : List ℕ)
    → Contains (keys_of layers) key → key a ≡ key b → together layers bottom a b ≡ true
together_under [] bottom key a b m e =
    confused_equal bottom a b (under (λ s. s) key a b (only_member bytes_key key m) e)
together_under (layer ∷ layers) bottom key a b m e =
    either_under (key_of layer) (together layers bottom) (keys_of layers)
    (together_under layers bottom) key a b m e
