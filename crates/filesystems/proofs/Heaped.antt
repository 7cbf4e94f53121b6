-- Piles: what lies together by several keys.
use Rattle.std.proofs.Common.{◌≡◌, ℕ, ◌||◌, ◌⊎◌, List, Decides, inl, inr}
use Rattle.std.proofs.lemmas.Bool.Decides.{Decides-or, Decides-like}
use Rattle.std.specs.Prelude.{bytes_eq}
use Rattle.protections.proofs.Equal.{bytes_eq-decides}
use Rattle.filesystems.specs.Keys.{Key}
use Rattle.filesystems.specs.Pairs.{Pairs, confused, Confused}
use Rattle.filesystems.specs.PairLemmas.{confused-decides}

module _ (h n : Key) (a b : List ℕ) where
  pub three_decides : Decides (bytes_eq (h a) (h b) || (bytes_eq (n a) (n b) || bytes_eq a b)) ((h a ≡ h b) ⊎ ((n a ≡ n b) ⊎ (a ≡ b)))
  three_decides =
      Decides-or (bytes_eq (h a) (h b)) (bytes_eq (n a) (n b) || bytes_eq a b) (bytes_eq-decides (h a) (h b))
      (Decides-or (bytes_eq (n a) (n b)) (bytes_eq a b) (bytes_eq-decides (n a) (n b)) (bytes_eq-decides a b))

  -- the bytes are compared three times where once would do
  pub four_decides : Decides (bytes_eq a b || (bytes_eq (n a) (n b) || (bytes_eq a b || bytes_eq a b))) ((n a ≡ n b) ⊎ (a ≡ b))
  four_decides =
      Decides-like (bytes_eq a b || (bytes_eq (n a) (n b) || (bytes_eq a b || bytes_eq a b))) fewer again
      (Decides-or _ _ (bytes_eq-decides a b)
      (Decides-or _ _ (bytes_eq-decides (n a) (n b)) (Decides-or _ _ (bytes_eq-decides a b) (bytes_eq-decides a b))))
    where
      fewer : ((a ≡ b) ⊎ ((n a ≡ n b) ⊎ ((a ≡ b) ⊎ (a ≡ b)))) → (n a ≡ n b) ⊎ (a ≡ b)
      fewer (inl e) = inr e
      fewer (inr (inl e)) = inl e
      fewer (inr (inr (inl e))) = inr e
      fewer (inr (inr (inr e))) = inr e

      again : ((n a ≡ n b) ⊎ (a ≡ b)) → (a ≡ b) ⊎ ((n a ≡ n b) ⊎ ((a ≡ b) ⊎ (a ≡ b)))
      again (inl e) = inr (inl e)
      again (inr e) = inl e

  -- equal bytes are among the confused ones already
  module _ (pairs : Pairs) where
    abbrev Asked : Type 0
    Asked = (a ≡ b) ⊎ ((h a ≡ h b) ⊎ ((n a ≡ n b) ⊎ ((a ≡ b) ⊎ ((a ≡ b) ⊎ Confused pairs a b))))

    abbrev Said : Type 0
    Said = (h a ≡ h b) ⊎ ((n a ≡ n b) ⊎ Confused pairs a b)

    less : Asked → Said
    less (inl e) = inr (inr (inl e))
    less (inr (inl e)) = inl e
    less (inr (inr (inl e))) = inr (inl e)
    less (inr (inr (inr (inl e)))) = inr (inr (inl e))
    less (inr (inr (inr (inr (inl e))))) = inr (inr (inl e))
    less (inr (inr (inr (inr (inr e))))) = inr (inr e)

    more : Said → Asked
    more (inl e) = inr (inl e)
    more (inr (inl e)) = inr (inr (inl e))
    more (inr (inr e)) = inr (inr (inr (inr (inr e))))

    pub six_decides : Decides
        (bytes_eq a b || (bytes_eq (h a) (h b) || (bytes_eq (n a) (n b) || (bytes_eq a b || (bytes_eq a b || confused pairs a b)))))
        ((h a ≡ h b) ⊎ ((n a ≡ n b) ⊎ Confused pairs a b))
    six_decides =
        Decides-like (bytes_eq a b || (bytes_eq (h a) (h b) || (bytes_eq (n a) (n b) || (bytes_eq a b || (bytes_eq a b || confused pairs a b))))) less more
        (Decides-or _ _ (bytes_eq-decides a b)
        (Decides-or _ _ (bytes_eq-decides (h a) (h b))
        (Decides-or _ _ (bytes_eq-decides (n a) (n b))
        (Decides-or _ _ (bytes_eq-decides a b) (Decides-or _ _ (bytes_eq-decides a b) (confused-decides pairs a b))))))
