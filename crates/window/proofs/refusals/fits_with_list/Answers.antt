-- The length of the return list is the definition's first test. Assumes nothing.
use borrow.Author.Tests.{lt-leb, le-leb}
use Rattle.window.specs.Refusals.{fits_with_list_of}
use Rattle.window.proofs.refusals.fits_with_list.Goals as goal

pub returns-then-returned-lt384 : goal.returns-then-returned-lt384
unfolding fits_with_list_of
returns-then-returned-lt384 c = rw (lt-leb 384 c.args.returned c.if-returned-lt384.true)

pub returns : goal.returns
unfolding fits_with_list_of
returns c = rw (le-leb 384 c.args.returned c.if-returned-lt384.false) c.fits.ensures
