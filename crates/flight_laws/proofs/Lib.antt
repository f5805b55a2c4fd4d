mod Flying
mod Moving
