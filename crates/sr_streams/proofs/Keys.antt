-- Streams that are one, and those that are not.
use Rattle.std.proofs.Common.{◌≡◌, ℕ, true, nat_eq, ◌&&◌, List, refl, sym, ◌∙◌, eqb-true, eq-eqb}
use Rattle.std.proofs.lemmas.Bool.{and_parts, and_from}
use lib.Pointwise.{pointwise, pointwise_decides}
use Rattle.sr_frame.specs.declared.fields.Mac.{Mac}
use Rattle.sr_frame.specs.AddressLemmas.{mac_same, mac_refl}
use Rattle.sr_frame.specs.Addresses.{mac_eq}
use Rattle.sr_streams.specs.declared.sums.Kind.{Kind}
use Rattle.sr_streams.specs.declared.sums.Kind.TheVariants.{Goose, Sampled}
use Rattle.sr_streams.specs.Tables.{Key, key_eq, kind_eq}

nat_decides : (x y : ℕ) → (nat_eq x y ≡ true → x ≡ y) × (x ≡ y → nat_eq x y ≡ true)
nat_decides x y = (λ h. eqb-true x y h, λ h. eq-eqb x y h)

kind_same : (x y : Kind) → kind_eq x y ≡ true → x ≡ y
kind_same Goose Goose h = refl
kind_same Goose Sampled h = cc
kind_same Sampled Goose h = cc
kind_same Sampled Sampled h = refl

kind_refl : (x : Kind) → kind_eq x x ≡ true
kind_refl Goose = refl
kind_refl Sampled = refl

make_key : Mac → Kind → List ℕ → Key
make_key src kind name = record { src = src; kind = kind; name = name }

same_parts : (a b : Mac) (k l : Kind) (x y : List ℕ) → a ≡ b → k ≡ l → x ≡ y → make_key a k x ≡ make_key b l y
same_parts a b k l x y e f g = cc

parts : (k : Key) → make_key k.src k.kind k.name ≡ k
unfolding make_key
parts k = refl

pub key_same : (k l : Key) → key_eq k l ≡ true → k ≡ l
key_same k l h =
    let first = and_parts (mac_eq k.src l.src) (kind_eq k.kind l.kind && pointwise nat_eq k.name l.name) h in
    let second = and_parts (kind_eq k.kind l.kind) (pointwise nat_eq k.name l.name) first.1 in
    let same = same_parts k.src l.src k.kind l.kind k.name l.name (mac_same k.src l.src first.0) (kind_same k.kind l.kind second.0)
    ((pointwise_decides nat_decides k.name l.name).0 second.1) in
    sym (parts k) ∙ same ∙ parts l

pub key_refl : (k : Key) → key_eq k k ≡ true
key_refl k =
    and_from (mac_eq k.src k.src) (kind_eq k.kind k.kind && pointwise nat_eq k.name k.name) (mac_refl k.src)
    (and_from (kind_eq k.kind k.kind) (pointwise nat_eq k.name k.name) (kind_refl k.kind) ((pointwise_decides nat_decides k.name k.name).1 refl))
