use Rattle.std.proofs.Common.{◌≡◌, Bool, true, false, ap, rules}
use Rattle.std.specs.Prelude.{◌||◌, is_none, Some}
use Rattle.tib_io.specs.Memory.{is_listed, lookup}
use Rattle.tib_io.proofs.memory_files.MemoryFilesFiles.read.Goals as goal

-- neither of two tests holds
neither : (a b : Bool) → a ≡ false → b ≡ false → (a || b) ≡ true → false ≡ true
neither true b p q t = absurd (cc)
neither false true p q t = absurd (cc)
neither false false p q t = t

pub returns-clause-fails : goal.returns-clause-fails
returns-clause-fails c =
    let listed : is_listed c.args.self.now.failing c.args.self.now.calls ≡ false = search rules in
    let there : lookup c.args.self.now.files c.args.name.now ≡ Some c.in-Some.bytes.now = search rules in (
      λ e. absurd (cc),
      λ t. neither (is_listed c.args.self.now.failing c.args.self.now.calls) (is_none (lookup c.args.self.now.files c.args.name.now)) listed (ap is_none there) t,
    )
