-- What a good cone's cell says where it is read; the truths that entries give the rows; a cone read from its cell; cones read cell by cell.
pub mod Bytes
pub mod Truths
pub mod Read
pub mod Cells
