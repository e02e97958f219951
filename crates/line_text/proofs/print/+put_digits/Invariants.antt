-- A number below 10 is one digit; any other has the digits of a tenth of it, then its last. The measure is the number. Assumes nothing.
use Rattle.line_text.proofs.print.+put_digits.Given as goal

abbrev pub decreases-put_digits : goal.decreases-put_digits
decreases-put_digits l = l.number
