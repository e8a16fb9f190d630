-- `lottexts::Text::extend` meets its contract. Assumes nothing.
use native.Mathlib.Omega.{arith}
use Rattle.lottexts.proofs.Texts.{text-length, text-more, whole-more, unused-more}
use Rattle.lottexts.proofs.text.Text.extend.Goals as goal

pub invariant_of-self : goal.invariant_of-self
invariant_of-self g c =
    let t = c.args.self.now in
    let after = c.copy_from_slice.ensures.after in
    record {
      fits = omega (arith, c.requires, text-length t);
      whole = whole-more t _ after c.requires;
      unused = unused-more t _ after c.requires;
    }

pub returns-clause-bytes : goal.returns-clause-bytes
returns-clause-bytes g c = text-more c.args.self.now _ c.copy_from_slice.ensures.after c.requires
