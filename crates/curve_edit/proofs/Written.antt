-- A node's fields written one behind the other are its bytes.
use mathlib.Core.Path.{◌≡◌, refl}
use mathlib.Core.List.{List}
use Prim.Native.Nat.{ℕ, ◌+◌}
use lib.ListN.{length-append}
use Rattle.layout.specs.Bytes.{put}
use Rattle.layout.specs.Field.{bytes_of, twos}
use Rattle.layout.proofs.Bytes.{then}
use Rattle.layout.proofs.Field.{length-bytes}
use Rattle.curve.specs.declared.Node.{Node}
use Rattle.curve_edit.specs.Lengthen.{node_bytes}

pub node-put : (s a b c d e f : List ℕ) (at : ℕ) (n : Node)
    → a ≡ put s at (bytes_of 2 n.day)
    → b ≡ put a (at + 2) (bytes_of 2 0)
    → c ≡ put b (at + 4) (bytes_of 4 n.rate)
    → d ≡ put c (at + 8) (bytes_of 4 (twos n.first))
    → e ≡ put d (at + 12) (bytes_of 4 (twos n.second))
    → f ≡ put e (at + 16) (bytes_of 4 (twos n.third))
    → f ≡ put s at (node_bytes n)
unfolding node_bytes
node-put s a b c d e f at n ea eb ec ed ee ef =
    let fb = then s at _ _ ea eb (simp length-bytes refl) in
    let fc = then s at _ _ fb ec (simp (length-append, length-bytes) refl) in
    let fd = then s at _ _ fc ed (simp (length-append, length-bytes) refl) in
    let fe = then s at _ _ fd ee (simp (length-append, length-bytes) refl) in
    then s at _ _ fe ef (simp (length-append, length-bytes) refl)
